-- The first fault of a dump, one line further.
use Rattle.std.proofs.Common.{◌≡◌, ℕ, ◌+◌, ◌≤◌, Bool, true, false, not, ◌||◌, cond, Option, Some, None, List, [], ◌∷◌, ◌++◌, length, map, refl, sym, ap, ap₂, ◌∙◌, arith, append_assoc, subst}
use Rattle.std.specs.Prelude.{codes, flat_map, is_none, IfSome}
use Rattle.std.specs.Str.{bytes_eq}
use Rattle.std.proofs.lemmas.Bool.{cond-false, cond-true, false_from_ne_true, not-false}
use Rattle.std.proofs.lemmas.List.{flat_map_more, length-map, length_push, map_push}
use Rattle.std.proofs.lemmas.List.Sums.{sum_by-append}
use Rattle.std.proofs.lemmas.Slice.Eq.{bytes_eq-Decides}
use Rattle.s2ix_bag_pairs.specs.Collection.{Collection, IsBag, copies_in}
use Rattle.s2ix_bag_pairs.specs.declared.limits.Limits.{Limits}
use Rattle.s2ix_bag_pairs.specs.declared.pair.Held.{Held}
use Rattle.s2ix_bag_lists.proofs.Refusals.{copies_bound}
use Rattle.s2ix_text_write.specs.declared.version.Version.{Version}
use Rattle.s2ix_text_write.specs.Dump.{end_line, pair_line}
use Rattle.s2ix_text_write.specs.Version.{dump_header, dump_version}
use Rattle.s2ix_text_write.proofs.Versions.{dump_header_named}
use Rattle.s2ix_text.specs.declared.dump_error.DumpFault.{DumpFault}
use Rattle.s2ix_text.specs.declared.dump_error.DumpFault.TheVariants.{Truncated, BadHeader, BadEnd, TrailingBytes}
use Rattle.s2ix_text.specs.DumpFaults.{dump_fault, end_text, is_end, line_fault}
use Rattle.s2ix_text_parts.specs.LineFaults.{IsFromLine, fault_below}
use Rattle.s2ix_text_parts.specs.Lines.{is_nil, lines_of, part}
use Rattle.s2ix_text.specs.PairLines.{IsCut, IsDumped, IsNext, line_text, lines_down_to, place_below}
use Rattle.s2ix_text.proofs.Appended.{counts_are}
use Rattle.s2ix_text_parts.proofs.FirstFault.{ended, found_from, found_here, found_later, found_nowhere, place}
use Rattle.s2ix_text_parts.proofs.Pieces.{lines_some}
use Rattle.s2ix_text_parts.proofs.Rests.{lines_split, some_after}
use Rattle.s2ix_text.proofs.PairTexts.{end_with_feed, line_with_feed}
use Rattle.s2ix_text.proofs.DumpRows.{after_row, end_row, header_row, not_over, over_after, truncated_row}

-- ---- a dump, so far

-- the first fault of what is left below the lines of some held pairs
abbrev pub fault_left : Limits → List ℕ → Collection → List (List ℕ) → Option (ℕ × DumpFault)
fault_left limits header hs lines = fault_below line_fault limits (lines_down_to header hs) lines

-- the text below the header up to here is the lines of these held pairs, and they are sound
pub record IsReadSoFar (limits : Limits) (header : List ℕ) (whole : List ℕ) (hs : Collection) (sum : ℕ) (rest : List ℕ) : Type 0 where
  pub dumped : IsDumped limits header hs
  pub text : whole ≡ flat_map pair_line hs ++ rest
  pub fault : fault_left limits header [] (lines_of whole) ≡ fault_left limits header hs (lines_of rest)
  pub copies : sum ≡ copies_in hs

-- the number of a line below the lines of these pairs
line_number : (limits : Limits) (header : List ℕ) (hs : Collection) (line : List ℕ) (lines : List (List ℕ)) (fault : DumpFault)
    → line_fault (place limits (lines_down_to header hs) line lines) ≡ Some fault
    → fault_left limits header hs (line ∷ lines) ≡ Some (length hs + 2, fault)
line_number limits header hs line lines fault is =
    found_here line_fault limits (lines_down_to header hs) line lines fault is
    ∙ ap (λ n. Some (n, fault))
    (let same : length (lines_down_to header hs) + 1 ≡ length hs + 2 = omega (arith, length-map hs line_text) in same)

next_lines : (header : List ℕ) (hs : Collection) (line : List ℕ) (h : Held) → line ≡ line_text h
    → lines_down_to header hs ++ line ∷ [] ≡ lines_down_to header (hs ++ h ∷ [])
next_lines header hs line h is =
    ap (λ (ls : List (List ℕ)). header ∷ ls) (ap (λ x. map line_text hs ++ x ∷ []) is ∙ sym (map_push line_text hs h))

pub fault_after_next : (limits : Limits) (header : List ℕ) (hs : Collection) (line : List ℕ) (lines : List (List ℕ)) (h : Held)
    → is_nil lines ≡ false → IsNext limits header hs line h
    → fault_left limits header hs (line ∷ lines) ≡ fault_left limits header (hs ++ h ∷ []) lines
fault_after_next limits header hs line lines h some next =
    found_later line_fault limits (lines_down_to header hs) line lines
    (ap line_fault (ended limits (lines_down_to header hs) line lines some) ∙ next.sound)
    ∙ ap (λ (above : List (List ℕ)). fault_below line_fault limits above lines) (next_lines header hs line h next.text)

copies_more : (hs : Collection) (h : Held) → copies_in (hs ++ h ∷ []) ≡ copies_in hs + h.count
copies_more hs h = omega (arith, sum_by-append (λ (x : Held). x.count) hs (h ∷ []))

-- one held pair more
pub read_more : (limits : Limits) (header : List ℕ) (text : List ℕ) (hs : Collection) (copies : ℕ) (rest below : List ℕ) (h : Held)
    → IsReadSoFar limits header text hs copies rest → IsCut rest (line_text h) below → IsNext limits header hs (line_text h) h
    → IsReadSoFar limits header text (hs ++ h ∷ []) (copies + h.count) below
read_more limits header text hs copies rest below h was cut next = record {
  dumped = next.dumped;
  text =
      was.text ∙ ap (λ x. flat_map pair_line hs ++ x)
      (cut.whole ∙ sym (append_assoc (line_text h) (10 ∷ []) below) ∙ ap (λ x. x ++ below) (sym (line_with_feed h)))
      ∙ sym (append_assoc (flat_map pair_line hs) (pair_line h) below)
      ∙ ap (λ x. x ++ below) (flat_map_more pair_line [] hs h);
  fault =
      was.fault ∙ ap (fault_left limits header hs) cut.lines
      ∙ fault_after_next limits header hs (line_text h) (lines_of below) h (lines_some below) next;
  copies = omega (arith, copies_more hs h, was.copies);
}

-- a fault of the next line
pub row_fault : (limits : Limits) (header : List ℕ) (hs : Collection) (rest line below : List ℕ) (fault : DumpFault)
    → lines_of rest ≡ line ∷ lines_of below → line_fault (place_below limits header hs line) ≡ Some fault
    → fault_left limits header hs (lines_of rest) ≡ Some (length hs + 2, fault)
row_fault limits header hs rest line below fault lines is =
    ap (fault_left limits header hs) lines
    ∙ line_number limits header hs line (lines_of below) fault
    (ap line_fault (ended limits (lines_down_to header hs) line (lines_of below) (lines_some below)) ∙ is)

-- no line feed if a line is wanted
pub truncated : (limits : Limits) (header : List ℕ) (hs : Collection) (rest : List ℕ) → IsDumped limits header hs
    → lines_of rest ≡ rest ∷ [] → fault_left limits header hs (lines_of rest) ≡ Some (length hs + 2, Truncated)
truncated limits header hs rest bag lines =
    ap (fault_left limits header hs) lines
    ∙ line_number limits header hs rest [] Truncated
    (truncated_row (place limits (lines_down_to header hs) rest []) (not_over header hs (counts_are limits header hs bag)) refl)

-- ---- the end line

end_sound : (limits : Limits) (header : List ℕ) (hs : Collection) (line : List ℕ) → IsDumped limits header hs → is_end line ≡ true
    → line ≡ end_text (length hs) (copies_in hs) → line_fault (place_below limits header hs line) ≡ None
end_sound limits header hs line bag end is =
    end_row limits header hs line bag end ∙ cond-false _ _ _ (ap not ((bytes_eq-Decides line (end_text (length hs) (copies_in hs))).1 is))

pub end_fault : (limits : Limits) (header : List ℕ) (hs : Collection) (line : List ℕ) → IsDumped limits header hs → is_end line ≡ true
    → (line ≡ end_text (length hs) (copies_in hs) → ⊥) → line_fault (place_below limits header hs line) ≡ Some BadEnd
end_fault limits header hs line bag end other =
    end_row limits header hs line bag end
    ∙ cond-true _ _ _
    (ap not (false_from_ne_true (bytes_eq line (end_text (length hs) (copies_in hs)))
    (λ same. other ((bytes_eq-Decides line (end_text (length hs) (copies_in hs))).0 same))))

-- what is left after the end line
pub fault_after : (limits : Limits) (header : List ℕ) (hs : Collection) (line : List ℕ) (last : List ℕ) (lines : List (List ℕ))
    → IsDumped limits header hs → is_end line ≡ true → line ≡ end_text (length hs) (copies_in hs)
    → fault_left limits header hs (line ∷ last ∷ lines) ≡ fault_below line_fault limits (lines_down_to header hs ++ line ∷ [])
    (last ∷ lines)
fault_after limits header hs line last lines bag end is =
    found_later line_fault limits (lines_down_to header hs) line (last ∷ lines) (end_sound limits header hs line bag end is)

last_fault : (limits : Limits) (header : List ℕ) (hs : Collection) (line last : List ℕ) (lines : List (List ℕ)) → is_end line ≡ true
    → line_fault (place limits (lines_down_to header hs ++ line ∷ []) last lines)
    ≡ cond (not (is_nil lines) || not (is_nil last)) (Some TrailingBytes) None
last_fault limits header hs line last lines end =
    after_row (place limits (lines_down_to header hs ++ line ∷ []) last lines) refl (over_after hs line end)

pub nothing_after : (limits : Limits) (header : List ℕ) (hs : Collection) (line : List ℕ) → IsDumped limits header hs → is_end line ≡ true
    → line ≡ end_text (length hs) (copies_in hs) → fault_left limits header hs (line ∷ [] ∷ []) ≡ None
nothing_after limits header hs line bag end is =
    fault_after limits header hs line [] [] bag end is
    ∙ found_later line_fault limits (lines_down_to header hs ++ line ∷ []) [] [] (last_fault limits header hs line [] [] end)
    ∙ found_nowhere line_fault limits ((lines_down_to header hs ++ line ∷ []) ++ [] ∷ [])

pub bytes_after : (limits : Limits) (header : List ℕ) (hs : Collection) (line last : List ℕ) (lines : List (List ℕ))
    → IsDumped limits header hs → is_end line ≡ true → line ≡ end_text (length hs) (copies_in hs)
    → (not (is_nil lines) || not (is_nil last)) ≡ true
    → fault_left limits header hs (line ∷ last ∷ lines) ≡ Some (length hs + 3, TrailingBytes)
bytes_after limits header hs line last lines bag end is some =
    fault_after limits header hs line last lines bag end is
    ∙ found_here line_fault limits (lines_down_to header hs ++ line ∷ []) last lines TrailingBytes
    (last_fault limits header hs line last lines end ∙ cond-true _ _ _ some)
    ∙ ap (λ n. Some (n, TrailingBytes))
    (let same : length (lines_down_to header hs ++ line ∷ []) + 1 ≡ length hs + 3 =
    omega (arith, length_push (lines_down_to header hs) line, length-map hs line_text) in same)

pub trailing : (limits : Limits) (header : List ℕ) (hs : Collection) (copies : ℕ) (rest line below : List ℕ) → IsDumped limits header hs
    → copies ≡ copies_in hs → lines_of rest ≡ line ∷ lines_of below → is_end line ≡ true → line ≡ end_text (length hs) copies
    → is_nil below ≡ false
    → fault_left limits header hs (lines_of rest) ≡ Some (length hs + 3, TrailingBytes)
trailing limits header hs copies rest line below bag sum lines end is some =
    let same : line ≡ end_text (length hs) (copies_in hs) = is ∙ ap (λ n. end_text (length hs) n) sum in
    let parts = lines_split (lines_of below) (lines_some below) in
    ap (fault_left limits header hs) (lines ∙ ap (λ ls. line ∷ ls) parts.2)
    ∙ bytes_after limits header hs line parts.0 parts.1 bag end same (some_after below parts.0 parts.1 some parts.2)

-- the whole text, where nothing is after the end line
pub read_to_end : (limits : Limits) (header : List ℕ) (hs : Collection) (copies : ℕ) (rest line below : List ℕ) → IsDumped limits header hs
    → copies ≡ copies_in hs → rest ≡ line ++ 10 ∷ below → lines_of rest ≡ line ∷ lines_of below → is_end line ≡ true
    → line ≡ end_text (length hs) copies → below ≡ []
    → (rest ≡ end_line hs) × (fault_left limits header hs (lines_of rest) ≡ None)
unfolding lines_of
read_to_end limits header hs copies rest line below bag sum cut lines end is none =
    let same : line ≡ end_text (length hs) (copies_in hs) = is ∙ ap (λ n. end_text (length hs) n) sum in (
      cut ∙ ap (λ x. line ++ 10 ∷ x) none ∙ ap (λ x. x ++ 10 ∷ []) same ∙ sym (end_with_feed hs),
      ap (fault_left limits header hs) (lines ∙ ap (λ x. line ∷ lines_of x) none) ∙ nothing_after limits header hs line bag end same,
    )

pub bad_end : (limits : Limits) (header : List ℕ) (hs : Collection) (copies : ℕ) (rest line below : List ℕ) → IsDumped limits header hs
    → copies ≡ copies_in hs → lines_of rest ≡ line ∷ lines_of below → is_end line ≡ true → (line ≡ end_text (length hs) copies → ⊥)
    → fault_left limits header hs (lines_of rest) ≡ Some (length hs + 2, BadEnd)
bad_end limits header hs copies rest line below bag sum lines end other =
    row_fault limits header hs rest line below BadEnd lines
    (end_fault limits header hs line bag end (λ is. other (is ∙ ap (λ n. end_text (length hs) n) (sym sum))))

-- ---- from the top

-- below the header the first fault is that of what is left
pub below_header : (limits : Limits) (version : Version) (text header below : List ℕ) → lines_of text ≡ header ∷ lines_of below
    → dump_version header ≡ Some version → dump_fault limits text ≡ fault_left limits (dump_header version) [] (lines_of below)
unfolding dump_fault
below_header limits version text header below lines named =
    ap (fault_below line_fault limits []) lines
    ∙ found_later line_fault limits [] header (lines_of below)
    (ap line_fault (ended limits [] header (lines_of below) (lines_some below)) ∙ header_row limits header
    ∙ cond-false _ _ _ (ap is_none named))
    ∙ ap (λ (h : List ℕ). fault_left limits h [] (lines_of below)) (dump_header_named header version named)

pub bad_header : (limits : Limits) (text header below : List ℕ) → lines_of text ≡ header ∷ lines_of below → dump_version header ≡ None
    → dump_fault limits text ≡ Some (1, BadHeader)
unfolding dump_fault
bad_header limits text header below lines none =
    ap (fault_below line_fault limits []) lines
    ∙ found_here line_fault limits [] header (lines_of below) BadHeader
    (ap line_fault (ended limits [] header (lines_of below) (lines_some below)) ∙ header_row limits header
    ∙ cond-true _ _ _ (ap is_none none))

pub no_header : (limits : Limits) (text : List ℕ) → lines_of text ≡ text ∷ [] → dump_fault limits text ≡ Some (1, Truncated)
unfolding dump_fault
no_header limits text lines =
    ap (fault_below line_fault limits []) lines
    ∙ found_here line_fault limits [] text [] Truncated (truncated_row (place limits [] text []) refl refl)

-- the sum of the counts fits, and one pair more
pub copies_small : (limits : Limits) (hs : Collection) → IsBag (record { limits = limits; held = hs })
    → (length hs ≤ 1000000) × (copies_in hs ≤ 4294967295000000)
copies_small limits hs bag = (omega (arith, bag.within_limit, limits.in_range.1), copies_bound (record { limits = limits; held = hs }) bag)

-- ---- what the code of `read_below` tests

pub end_agrees : (line first word : List ℕ) (r : Bool) → r ≡ not (bytes_eq first word) → first ≡ part 0 line → word ≡ codes "end"
    → r ≡ false → is_end line ≡ true
end_agrees line first word r is first_is word_is fails =
    ap₂ (λ (x y : List ℕ). bytes_eq x y) (sym first_is) (sym word_is) ∙ not-false (bytes_eq first word) (sym is ∙ fails)

-- the sum of the counts with the next one fits
pub next_sum : (limits : Limits) (header : List ℕ) (hs : Collection) (line : List ℕ) (h : Held) → IsNext limits header hs line h
    → copies_in hs + h.count ≤ 4294967295000000
next_sum limits header hs line h next = omega (arith, copies_more hs h, (copies_small limits (hs ++ h ∷ []) next.dumped.bag).1)

-- want of memory below the header
pub wants_below : (limits : Limits) (header text : List ℕ) → IsFromLine 2 (fault_left limits header [] (lines_of text))
wants_below limits header text = found_from line_fault limits 2 (lines_down_to header []) (lines_of text) (omega arith)

-- what a clause says of a value
pub at_some : {A : Type 0} (o : Option A) (P : A → Type 0) (x : A) → o ≡ Some x → IfSome o P → P x
at_some None P x is clause = cc
at_some (Some y) P x is clause = let same : y ≡ x = cc in subst P same clause

pub at_line : (m n : ℕ) (fault : DumpFault) → m ≡ n → ◌≡◌ {A = Option (ℕ × DumpFault)} (Some (m, fault)) (Some (n, fault))
at_line m n fault same = ap (λ (k : ℕ). let found : Option (ℕ × DumpFault) = Some (k, fault) in found) same
