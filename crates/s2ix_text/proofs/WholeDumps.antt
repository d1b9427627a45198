-- A text has no fault exactly if it is a dump.
use Rattle.std.proofs.Common.{◌≡◌, ℕ, ◌+◌, ◌^◌, ◌<◌, ◌≤◌, ◌↔◌, true, false, not, Option, Some, None, Result, Ok, Err, List, [], ◌∷◌, ◌++◌, All, length, map, refl, sym, ap, ap₂, ◌∙◌, subst, arith, append_assoc, ⊎_elim}
use Rattle.std.specs.Prelude.{flat_map, is_none}
use Rattle.std.specs.List.{join_with_byte}
use Rattle.std.specs.Str.{bytes_eq}
use Rattle.std.proofs.lemmas.Bool.{both_ways, cases_Bool, cases_lt, cond-false, cond-true, le-leb, le-ltb, lt-ltb}
use Rattle.std.proofs.lemmas.List.{append-nil, length-append}
use Rattle.std.proofs.lemmas.List.Elements.{All-head, All-tail}
use Rattle.std.proofs.lemmas.Slice.Eq.{bytes_eq-Decides}
use Rattle.s2ix_bag_pairs.specs.Collection.{Collection, IsBag, LimitedCollection, copies_in}
use Rattle.s2ix_bag_pairs.specs.Limits.{count_limit, pairs_limit}
use Rattle.s2ix_bag_pairs.specs.declared.limits.Limits.{Limits}
use Rattle.s2ix_bag_pairs.specs.declared.pair.Held.{Held}
use Rattle.s2ix_text_write.specs.declared.version.Version.{Version}
use Rattle.s2ix_text_write.specs.Dump.{CanHold, IsDump, dump_in, end_line, pair_line}
use Rattle.s2ix_text_write.specs.Version.{dump_header, dump_version}
use Rattle.s2ix_text_write.proofs.Dumps.{one_dump}
use Rattle.s2ix_text_write.proofs.Versions.{dump_header_lacks_feed, dump_header_named, named_by_dump_header}
use Rattle.s2ix_text.specs.declared.dump_error.DumpError.{DumpError}
use Rattle.s2ix_text.specs.declared.dump_error.DumpError.TheVariants.{At, OutOfMemory}
use Rattle.s2ix_text.specs.declared.dump_error.DumpFault.{DumpFault}
use Rattle.s2ix_text.specs.declared.dump_error.DumpFault.TheVariants.{Truncated, BadHeader, BadEnd, Unsorted, TooManyCopies, TooManyPairs, TrailingBytes}
use Rattle.s2ix_text.specs.DumpFaults.{IsDumpError, dump_fault, end_text, greatest_count, is_end, line_fault}
use Rattle.s2ix_text_parts.specs.LineFaults.{fault_below}
use Rattle.s2ix_text_parts.specs.Lines.{is_nil, lines_of}
use Rattle.s2ix_text.specs.PairLines.{IsDumped, IsNext, held_written, last_pair, line_text, lines_down_to, place_below}
use Rattle.s2ix_text_parts.specs.Written.{comes_before}
use Rattle.s2ix_text.proofs.Appended.{counts_are, dumped_in, front_is_dumped, held_in, here_has, next_before}
use Rattle.s2ix_text.proofs.PairTexts.{HasCount, end_is_end, end_lacks_feed, end_with_feed, held_of_line, line_is_no_end, line_lacks_feed, line_with_feed}
use Rattle.s2ix_text_parts.proofs.FirstFault.{found_later, place}
use Rattle.s2ix_text_parts.proofs.NoFault.{none_among, none_here}
use Rattle.s2ix_text_parts.proofs.Rests.{join_more, no_lines, some_left}
use Rattle.s2ix_text_parts.proofs.Pieces.{lines_apart, lines_joined, lines_some}
use Rattle.s2ix_text.proofs.DumpRows.{header_row, next_fault, next_is, not_over, pair_row, truncated_row}
use Rattle.s2ix_text.proofs.NextDumpLines.{below_header, bytes_after, copies_small, end_fault, fault_after_next, fault_left, nothing_after}

-- the lines of a dump below those of some held pairs: of the others, and the end line
abbrev pub lines_left : Collection → Collection → List (List ℕ)
lines_left hs ks = map line_text ks ++ end_text (length (hs ++ ks)) (copies_in (hs ++ ks)) ∷ [] ∷ []

-- ---- a dump has no fault

sound_left : (limits : Limits) (header : List ℕ) (hs ks : Collection) → IsDumped limits header (hs ++ ks)
    → fault_left limits header hs (lines_left hs ks) ≡ None
sound_left limits header hs [] is =
    let bag = front_is_dumped limits header hs [] is in
    let sizes = copies_small limits hs bag.bag in
    ap (λ (x : Collection). fault_left limits header hs (end_text (length x) (copies_in x) ∷ [] ∷ [])) (append-nil hs)
    ∙ nothing_after limits header hs (end_text (length hs) (copies_in hs)) bag
    (end_is_end (length hs) (copies_in hs) (omega (arith, sizes.0)) (omega (arith, sizes.1))) refl
sound_left limits header hs (k ∷ ks) is =
    let bag = front_is_dumped limits header hs (k ∷ ks) is in
    let counted : HasCount header k = here_has (HasCount header) hs k ks (counts_are limits header (hs ++ k ∷ ks) is) in
    let small = here_has (λ (h : Held). h.count ≤ count_limit limits) hs k ks is.bag.small in
    let within_limit : length hs < pairs_limit limits = omega (arith, length-append hs (k ∷ ks), is.bag.within_limit) in
    let next =
    next_is limits header hs (line_text k) k bag (line_is_no_end header k counted) (held_of_line header k counted)
    (next_before hs k ks is.bag.rises) small within_limit in
    let With : Collection → Type 0 = λ x. IsDumped limits header x in
    let assoc : hs ++ k ∷ ks ≡ (hs ++ k ∷ []) ++ ks = sym (append_assoc hs (k ∷ []) ks) in
    fault_after_next limits header hs (line_text k)
    (map line_text ks ++ end_text (length (hs ++ k ∷ ks)) (copies_in (hs ++ k ∷ ks)) ∷ [] ∷ []) k (some_left (map line_text ks) _ _) next
    ∙ ap (λ (x : Collection). fault_left limits header (hs ++ k ∷ []) (map line_text ks ++ end_text (length x) (copies_in x) ∷ [] ∷ []))
    assoc
    ∙ sound_left limits header (hs ++ k ∷ []) ks (subst With assoc is)

-- the lines of a dump
lines_written : (header : List ℕ) (ks all : Collection) → All (HasCount header) ks → length all < 2 ^ 64 → copies_in all < 2 ^ 64
    → lines_of (flat_map pair_line ks ++ end_line all) ≡ map line_text ks ++ end_text (length all) (copies_in all) ∷ [] ∷ []
lines_written header [] all counted within_limit small =
    ap lines_of (end_with_feed all)
    ∙ lines_apart (end_text (length all) (copies_in all)) [] (end_lacks_feed (length all) (copies_in all) within_limit small)
    ∙ ap (λ ls. end_text (length all) (copies_in all) ∷ ls) no_lines
lines_written header (k ∷ ks) all counted within_limit small =
    ap lines_of
    (append_assoc (pair_line k) (flat_map pair_line ks) (end_line all)
    ∙ ap (λ x. x ++ (flat_map pair_line ks ++ end_line all)) (line_with_feed k)
    ∙ append_assoc (line_text k) (10 ∷ []) (flat_map pair_line ks ++ end_line all))
    ∙ lines_apart (line_text k) (flat_map pair_line ks ++ end_line all) (line_lacks_feed header k (All-head (HasCount header) k ks counted))
    ∙ ap (λ ls. line_text k ∷ ls) (lines_written header ks all (All-tail (HasCount header) k ks counted) within_limit small)

-- the dump of a collection within the limits, in a version that can hold it, has no fault
dump_is_sound : (limits : Limits) (version : Version) (hs : Collection) → IsBag (record { limits = limits; held = hs }) → CanHold version hs
    → dump_fault limits (dump_in version hs) ≡ None
unfolding dump_in
dump_is_sound limits version hs is held =
    let header = dump_header version in
    let dumped = dumped_in limits version hs is held in
    let sizes = copies_small limits hs is in
    let below = flat_map pair_line hs ++ end_line hs in
    below_header limits version (header ++ 10 ∷ below) header below (lines_apart header below (dump_header_lacks_feed version))
    (named_by_dump_header version)
    ∙ ap (fault_left limits header [])
    (lines_written header hs hs (counts_are limits header hs dumped) (omega (arith, sizes.0)) (omega (arith, sizes.1)))
    ∙ sound_left limits header [] hs dumped

no_fault : (limits : Limits) (text : List ℕ) (hs : Collection) → IsBag (record { limits = limits; held = hs }) → IsDump text hs
    → dump_fault limits text ≡ None
no_fault limits text hs is dump = ap (dump_fault limits) dump.2 ∙ dump_is_sound limits dump.0 hs is dump.1

-- ---- a text without a fault is a dump

next_at : (limits : Limits) (header : List ℕ) (hs : Collection) (line : List ℕ) (written : Result Held DumpFault)
    → IsDumped limits header hs → is_end line ≡ false → held_written (greatest_count header) line ≡ written
    → next_fault limits hs written ≡ None → (h : Held) × IsNext limits header hs line h
unfolding next_fault
next_at limits header hs line (Err fault) is no_end writes none = cc
next_at limits header hs line (Ok h) is no_end writes none =
    ⊎_elim
    (λ before. let rest = sym (cond-false _ _ _ (ap not before)) ∙ none in
    ⊎_elim
    (λ many. let clash : Some TooManyCopies ≡ None = sym (cond-true _ _ _ (lt-ltb (count_limit limits) h.count many)) ∙ rest in cc)
    (λ small. let last = sym (cond-false _ _ _ (le-ltb (count_limit limits) h.count small)) ∙ rest in
    ⊎_elim
    (λ within_limit. (h, next_is limits header hs line h is no_end writes before small within_limit))
    (λ full. let clash : Some TooManyPairs ≡ None = sym (cond-true _ _ _ (le-leb (pairs_limit limits) (length hs) full)) ∙ last in cc)
    (cases_lt (length hs) (pairs_limit limits)))
    (cases_lt (count_limit limits) h.count))
    (λ not_before. let clash : Some Unsorted ≡ None = sym (cond-true _ _ _ (ap not not_before)) ∙ none in cc)
    (cases_Bool (comes_before (last_pair hs) (Some h.pair)))

next_from : (limits : Limits) (header : List ℕ) (hs : Collection) (line : List ℕ) → IsDumped limits header hs → is_end line ≡ false
    → line_fault (place_below limits header hs line) ≡ None → (h : Held) × IsNext limits header hs line h
next_from limits header hs line is no_end none =
    next_at limits header hs line (held_written (greatest_count header) line) is no_end refl
    (sym (pair_row limits header hs line is no_end) ∙ none)

end_from : (limits : Limits) (header : List ℕ) (hs : Collection) (line : List ℕ) → IsDumped limits header hs → is_end line ≡ true
    → line_fault (place_below limits header hs line) ≡ None → line ≡ end_text (length hs) (copies_in hs)
end_from limits header hs line is end none =
    ⊎_elim
    (λ same. (bytes_eq-Decides line (end_text (length hs) (copies_in hs))).0 same)
    (λ other.
    let fault =
    end_fault limits header hs line is end
    (λ e. both_ways (bytes_eq line (end_text (length hs) (copies_in hs))) other
    ((bytes_eq-Decides line (end_text (length hs) (copies_in hs))).1 e)) in
    let clash : Some BadEnd ≡ None = sym fault ∙ none in cc)
    (cases_Bool (bytes_eq line (end_text (length hs) (copies_in hs))))

-- nothing is left after the end line
end_left : (limits : Limits) (header : List ℕ) (hs : Collection) (line last : List ℕ) (lines : List (List ℕ)) → IsDumped limits header hs
    → is_end line ≡ true → line ≡ end_text (length hs) (copies_in hs) → fault_left limits header hs (line ∷ last ∷ lines) ≡ None
    → line ∷ last ∷ lines ≡ end_text (length hs) (copies_in hs) ∷ [] ∷ []
end_left limits header hs line [] [] is end same none = ap (λ x. x ∷ [] ∷ []) same
end_left limits header hs line (byte ∷ last) [] is end same none =
    let clash : ◌≡◌ {A = Option (ℕ × DumpFault)} (Some (length hs + 3, TrailingBytes)) None =
    sym (bytes_after limits header hs line (byte ∷ last) [] is end same refl) ∙ none in cc
end_left limits header hs line last (more ∷ lines) is end same none =
    let clash : ◌≡◌ {A = Option (ℕ × DumpFault)} (Some (length hs + 3, TrailingBytes)) None =
    sym (bytes_after limits header hs line last (more ∷ lines) is end same refl) ∙ none in cc

-- what is left of a dump: more held pairs, and the end line
record IsLeft (limits : Limits) (header : List ℕ) (hs : Collection) (lines : List (List ℕ)) (ks : Collection) : Type 0 where
  dumped : IsDumped limits header (hs ++ ks)
  is : lines ≡ lines_left hs ks

left_end : (limits : Limits) (header : List ℕ) (hs : Collection) (lines : List (List ℕ)) → IsDumped limits header hs
    → lines ≡ end_text (length hs) (copies_in hs) ∷ [] ∷ [] → IsLeft limits header hs lines []
left_end limits header hs lines is same =
    let With : Collection → Type 0 = λ x. IsDumped limits header x in
    let whole : hs ≡ hs ++ [] = sym (append-nil hs) in
    record {
      dumped = subst With whole is;
      is = same ∙ ap (λ (x : Collection). end_text (length x) (copies_in x) ∷ [] ∷ []) whole;
    }

left_more : (limits : Limits) (header : List ℕ) (hs : Collection) (line : List ℕ) (lines : List (List ℕ)) (h : Held) (ks : Collection)
    → line ≡ line_text h → IsLeft limits header (hs ++ h ∷ []) lines ks → IsLeft limits header hs (line ∷ lines) (h ∷ ks)
left_more limits header hs line lines h ks same left =
    let With : Collection → Type 0 = λ x. IsDumped limits header x in
    let assoc : (hs ++ h ∷ []) ++ ks ≡ hs ++ h ∷ ks = append_assoc hs (h ∷ []) ks in
    record {
      dumped = subst With assoc left.dumped;
      is =
          ap₂ (λ (x : List ℕ) (xs : List (List ℕ)). x ∷ xs) same
          (left.is ∙ ap (λ (x : Collection). map line_text ks ++ end_text (length x) (copies_in x) ∷ [] ∷ []) assoc);
    }

left_from : (limits : Limits) (header : List ℕ) (hs : Collection) (lines : List (List ℕ)) → IsDumped limits header hs → is_nil lines ≡ false
    → fault_left limits header hs lines ≡ None → (ks : Collection) × IsLeft limits header hs lines ks
left_from limits header hs [] is some none = cc
left_from limits header hs (line ∷ []) is some none =
    let fault = truncated_row (place limits (lines_down_to header hs) line []) (not_over header hs (counts_are limits header hs is)) refl in
    let clash : Some Truncated ≡ None = sym fault ∙ none_here line_fault limits (lines_down_to header hs) line [] none in cc
left_from limits header hs (line ∷ (last ∷ lines)) is some none =
    let sound = none_here line_fault limits (lines_down_to header hs) line (last ∷ lines) none in
    ⊎_elim
    (λ end.
    let same = end_from limits header hs line is end sound in
    ([], left_end limits header hs (line ∷ last ∷ lines) is (end_left limits header hs line last lines is end same none)))
    (λ no_end.
    let next = next_from limits header hs line is no_end sound in
    let later =
    left_from limits header (hs ++ next.0 ∷ []) (last ∷ lines) next.1.dumped refl
    (sym (fault_after_next limits header hs line (last ∷ lines) next.0 refl next.1) ∙ none) in
    (next.0 ∷ later.0, left_more limits header hs line (last ∷ lines) next.0 later.0 next.1.text later.1))
    (cases_Bool (is_end line))

-- lines put together
join_left : (ks : Collection) (end : List ℕ)
    → join_with_byte 10 (map line_text ks ++ end ∷ [] ∷ []) ≡ flat_map pair_line ks ++ (end ++ 10 ∷ [])
join_left [] end = refl
join_left (k ∷ ks) end =
    join_more (line_text k) (map line_text ks ++ end ∷ [] ∷ []) (some_left (map line_text ks) end ([] ∷ []))
    ∙ ap (λ x. line_text k ++ 10 ∷ x) (join_left ks end)
    ∙ sym (append_assoc (line_text k) (10 ∷ []) (flat_map pair_line ks ++ (end ++ 10 ∷ [])))
    ∙ ap (λ x. x ++ (flat_map pair_line ks ++ (end ++ 10 ∷ []))) (sym (line_with_feed k))
    ∙ sym (append_assoc (pair_line k) (flat_map pair_line ks) (end ++ 10 ∷ []))

nothing_dumped : (limits : Limits) (header : List ℕ) → IsDumped limits header []
nothing_dumped limits header = record {
  bag = record { rises = tt; within_limit = omega arith; small = λ k d within. absurd (omega arith) };
  written = λ k d within. absurd (omega arith);
}

version_from : (limits : Limits) (header next : List ℕ) (lines : List (List ℕ)) (found : Option Version) → dump_version header ≡ found
    → fault_below line_fault limits [] (header ∷ next ∷ lines) ≡ None → (version : Version) × (found ≡ Some version)
version_from limits header next lines (Some version) is none = (version, refl)
version_from limits header next lines None is none =
    let fault = header_row limits header ∙ cond-true _ _ _ (ap is_none is) in
    let clash : Some BadHeader ≡ None = sym fault ∙ none_here line_fault limits [] header (next ∷ lines) none in cc

-- a header, and below it the lines of what its version can hold
pub dump_put_together : (version : Version) (text header below : List ℕ) (hs : Collection) → text ≡ header ++ 10 ∷ below
    → dump_version header ≡ Some version → CanHold version hs → below ≡ flat_map pair_line hs ++ end_line hs → IsDump text hs
unfolding dump_in
dump_put_together version text header below hs cut named held parts = (
  version,
  held,
  cut ∙ ap (λ h. h ++ 10 ∷ below) (dump_header_named header version named) ∙ ap (λ b. dump_header version ++ 10 ∷ b) parts,
)

lines_are_dump : (limits : Limits) (lines : List (List ℕ)) → is_nil lines ≡ false → fault_below line_fault limits [] lines ≡ None
    → (ks : Collection) × IsBag (record { limits = limits; held = ks }) × IsDump (join_with_byte 10 lines) ks
lines_are_dump limits [] some none = cc
lines_are_dump limits (header ∷ []) some none =
    let fault = truncated_row (place limits [] header []) refl refl in
    let clash : Some Truncated ≡ None = sym fault ∙ none_here line_fault limits [] header [] none in cc
lines_are_dump limits (header ∷ (next ∷ lines)) some none =
    let named = version_from limits header next lines (dump_version header) refl none in
    let later =
    sym (found_later line_fault limits [] header (next ∷ lines) (none_here line_fault limits [] header (next ∷ lines) none)) ∙ none in
    let left = left_from limits header [] (next ∷ lines) (nothing_dumped limits header) refl later in
    let end = end_text (length left.0) (copies_in left.0) in
    let parts =
    ap (join_with_byte 10) left.1.is ∙ join_left left.0 end ∙ ap (λ x. flat_map pair_line left.0 ++ x) (sym (end_with_feed left.0)) in (
      left.0,
      left.1.dumped.bag,
      dump_put_together named.0 _ header (join_with_byte 10 (next ∷ lines)) left.0 refl named.1
          (held_in limits header named.0 left.0 named.1 left.1.dumped) parts,
    )

pub sound_is_dump : (limits : Limits) (text : List ℕ) → dump_fault limits text ≡ None
    → (ks : Collection) × IsBag (record { limits = limits; held = ks }) × IsDump text ks
unfolding dump_fault
sound_is_dump limits text none =
    let dump = lines_are_dump limits (lines_of text) (lines_some text) none in
    (dump.0, dump.1, subst (λ (t : List ℕ). IsDump t dump.0) (lines_joined text) dump.2)

pub dumps_have_no_fault : (limits : Limits) (text : List ℕ)
    → (dump_fault limits text ≡ None) ↔ ((hs : Collection) × IsBag (record { limits = limits; held = hs }) × IsDump text hs)
dumps_have_no_fault limits text = (sound_is_dump limits text, λ dump. no_fault limits text dump.0 dump.1 dump.2)

-- ---- what a reader answers

-- a dump within the limits is not refused
pub never_refused : (limits : Limits) (text : List ℕ) (hs : Collection) (found : ℕ × DumpFault)
    → IsBag (record { limits = limits; held = hs }) → IsDump text hs → dump_fault limits text ≡ Some found → ⊥
never_refused limits text hs found is dump refused =
    let clash : ◌≡◌ {A = Option (ℕ × DumpFault)} (Some found) None = sym refused ∙ no_fault limits text hs is dump in cc

pub only_memory : (limits : Limits) (text : List ℕ) (hs : Collection) (error : DumpError) → IsBag (record { limits = limits; held = hs })
    → IsDump text hs → IsDumpError error (dump_fault limits text) → error ≡ OutOfMemory
only_memory limits text hs OutOfMemory is dump refused = refl
only_memory limits text hs (At line fault) is dump refused = absurd (never_refused limits text hs (line, fault) is dump refused)

-- ---- laws

pub written_dumps_are_read_back : (bag : LimitedCollection) → IsBag bag → (version : Version) → CanHold version bag.held
    → (dump_fault bag.limits (dump_in version bag.held) ≡ None)
    × ((other : LimitedCollection) → IsBag other → IsDump (dump_in version bag.held) other.held → bag.held ≡ other.held)
written_dumps_are_read_back bag is version held = (
  dump_is_sound bag.limits version bag.held is held,
  λ other other_is dump. one_dump (dump_in version bag.held) bag.held other.held (version, held, refl) dump,
)

pub no_faulty_line_is_accepted : (limits : Limits) (text : List ℕ) → dump_fault limits text ≡ None
    → (above : List (List ℕ)) (line : List ℕ) (below : List (List ℕ)) → lines_of text ≡ above ++ line ∷ below
    → line_fault (place limits above line below) ≡ None
unfolding dump_fault
no_faulty_line_is_accepted limits text none above line below are =
    none_among line_fault limits [] above line below (ap (fault_below line_fault limits []) (sym are) ∙ none)
