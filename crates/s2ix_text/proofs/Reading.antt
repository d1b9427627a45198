-- What is read so far of a group, and of a journal below its header.
use Rattle.std.proofs.Common.{◌≡◌, ℕ, suc, ◌+◌, ◌*◌, ◌<◌, ◌≤◌, ◌^◌, true, false, not, ◌||◌, cond, Option, Some, None, Result, Ok, Err, List, [], ◌∷◌, ◌++◌, All, length, map, refl, sym, ap, ap₂, ◌∙◌, subst, arith, append_assoc}
use Rattle.std.specs.Prelude.{flat_map, slice_index_or}
use Rattle.std.specs.Result.{result_err}
use Rattle.std.specs.Str.{bytes_eq}
use Rattle.std.proofs.lemmas.Bool.{cond-false, cond-true, false_from_ne_true}
use Rattle.std.proofs.lemmas.List.{append-nil, flat_map_more, length-append, length-map, length_push}
use Rattle.std.proofs.lemmas.List.Elements.{All-head, All-push, All-tail}
use Rattle.std.proofs.lemmas.Slice.Eq.{bytes_eq-Decides}
use Rattle.s2ix_bag_pairs.specs.Limits.{changes_limit}
use Rattle.s2ix_bag_pairs.specs.declared.limits.Limits.{Limits}
use Rattle.s2ix_bag_pairs.specs.declared.pair.Entry.{Entry}
use Rattle.s2ix_text_write.specs.Journal.{change_line, entry_line, group_text, last_line}
use Rattle.s2ix_text_parts.specs.LineFaults.{IsFromLine}
use Rattle.s2ix_text_parts.specs.Lines.{is_nil, lines_of}
use Rattle.s2ix_text_parts.proofs.FirstFault.{found_from, found_here, found_later, found_nowhere, place}
use Rattle.s2ix_text_parts.proofs.Pieces.{lines_apart, lines_some}
use Rattle.s2ix_text_parts.proofs.Rests.{lines_split, some_after}
use Rattle.s2ix_text.specs.declared.journal_error.JournalFault.{JournalFault}
use Rattle.s2ix_text.specs.declared.journal_error.JournalFault.TheVariants.{BadEnd, TrailingBytes, Truncated}
use Rattle.s2ix_text.specs.JournalFaults.{read_above, end_text, greatest_count, is_end, line_fault}
use Rattle.s2ix_text.specs.JournalLines.{at_group, change_text, entry_text, group_lines, last_pair, lines_down_to, next_entry, next_size}
use Rattle.s2ix_text.specs.Journals.{AreEntries, HasSides, IsGroup}
use Rattle.s2ix_text.proofs.ChangeTexts.{IsSize, change_lacks_feed, change_with_feed, end_with_feed, line_from_size}
use Rattle.s2ix_text.proofs.EntryTexts.{entry_lacks_feed, line_with_feed}
use Rattle.s2ix_text.proofs.NextEntries.{entries_more, next_from}
use Rattle.s2ix_text.proofs.JournalRows.{IsBetween, IsInside, after_row, end_row, entry_row, group_row, place_below}
use Rattle.s2ix_text.proofs.SoFar.{between_start, group_begun, inside_group, over_after, some_after_line}
use Rattle.s2ix_text.proofs.NextJournalLines.{cut_short, entries_passed, fault_left, groups_passed, passes, stops}

-- ---- the lines of entries and groups

pub lines_of_entries : (most : ℕ) → most < 2 ^ 32 → (es : List Entry) (rest : List ℕ) → All (HasSides most) es
    → lines_of (flat_map entry_line es ++ rest) ≡ map entry_text es ++ lines_of rest
lines_of_entries most bounded [] rest sides = refl
lines_of_entries most bounded (e ∷ es) rest sides =
    ap lines_of
    (append_assoc (entry_line e) (flat_map entry_line es) rest ∙ ap (λ x. x ++ (flat_map entry_line es ++ rest)) (line_with_feed e)
    ∙ append_assoc (entry_text e) (10 ∷ []) (flat_map entry_line es ++ rest))
    ∙ lines_apart (entry_text e) (flat_map entry_line es ++ rest) (entry_lacks_feed most bounded e (All-head (HasSides most) e es sides))
    ∙ ap (λ (ls : List (List ℕ)). entry_text e ∷ ls) (lines_of_entries most bounded es rest (All-tail (HasSides most) e es sides))

pub lines_of_group : (most : ℕ) → most < 2 ^ 32 → (limits : Limits) (es : List Entry) (rest : List ℕ) → IsGroup most limits es
    → lines_of (group_text es ++ rest) ≡ group_lines es ++ lines_of rest
unfolding group_text
lines_of_group most bounded limits es rest group =
    ap lines_of
    (append_assoc (change_line es) (flat_map entry_line es) rest ∙ ap (λ x. x ++ (flat_map entry_line es ++ rest)) (change_with_feed es)
    ∙ append_assoc (change_text (length es)) (10 ∷ []) (flat_map entry_line es ++ rest))
    ∙ lines_apart (change_text (length es)) (flat_map entry_line es ++ rest) (change_lacks_feed (length es) (omega (arith, group.within_limit)))
    ∙ ap (λ (ls : List (List ℕ)). change_text (length es) ∷ ls) (lines_of_entries most bounded es rest group.entries.sides)

pub lines_of_groups : (most : ℕ) → most < 2 ^ 32 → (limits : Limits) (cs : List (List Entry)) (rest : List ℕ) → All (IsGroup most limits) cs
    → lines_of (flat_map group_text cs ++ rest) ≡ flat_map group_lines cs ++ lines_of rest
lines_of_groups most bounded limits [] rest are = refl
lines_of_groups most bounded limits (c ∷ cs) rest are =
    ap lines_of (append_assoc (group_text c) (flat_map group_text cs) rest)
    ∙ lines_of_group most bounded limits c (flat_map group_text cs ++ rest) (All-head (IsGroup most limits) c cs are)
    ∙ ap (λ (ls : List (List ℕ)). group_lines c ++ ls)
    (lines_of_groups most bounded limits cs rest (All-tail (IsGroup most limits) c cs are))
    ∙ sym (append_assoc (group_lines c) (flat_map group_lines cs) (lines_of rest))

pub at_line : (m n : ℕ) (fault : JournalFault) → m ≡ n → ◌≡◌ {A = Option (ℕ × JournalFault)} (Some (m, fault)) (Some (n, fault))
at_line m n fault same = ap (λ (k : ℕ). let found : Option (ℕ × JournalFault) = Some (k, fault) in found) same

-- ---- a group, so far

-- the text below the group's first line is the lines of these entries and what is left
pub record IsGroupSoFar (most : ℕ) (limits : Limits) (text : List ℕ) (wanted : ℕ) (es : List Entry) (rest : List ℕ) : Type 0 where
  pub entries : AreEntries most limits es
  pub within_limit : length es ≤ wanted
  pub cut : text ≡ flat_map entry_line es ++ rest

pub group_more : (most : ℕ) → most < 2 ^ 32
    → (limits : Limits) (text : List ℕ) (wanted : ℕ) (es : List Entry) (rest line below : List ℕ) (e : Entry)
    → IsGroupSoFar most limits text wanted es rest → length es < wanted → rest ≡ line ++ 10 ∷ below
    → next_entry most limits (last_pair es) line ≡ Ok e
    → IsGroupSoFar most limits text wanted (es ++ e ∷ []) below
group_more most bounded limits text wanted es rest line below e was more cut is =
    let next = next_from most bounded limits (last_pair es) line e is in
    record {
      entries = entries_more most limits es line e was.entries next;
      within_limit = omega (arith, length_push es e, more);
      cut =
          was.cut
          ∙ ap (λ x. flat_map entry_line es ++ x)
          (cut ∙ ap (λ x. x ++ 10 ∷ below) next.text ∙ sym (append_assoc (entry_text e) (10 ∷ []) below)
          ∙ ap (λ x. x ++ below) (sym (line_with_feed e)))
          ∙ sym (append_assoc (flat_map entry_line es) (entry_line e) below)
          ∙ ap (λ x. x ++ below) (flat_map_more entry_line [] es e);
    }

pub group_so_far : (most : ℕ) → most < 2 ^ 32
    → (limits : Limits) (above : List (List ℕ)) (groups wanted left : ℕ) (text : List ℕ) (es : List Entry) (rest : List ℕ)
    → is_nil above ≡ false → greatest_count (slice_index_or above 0 []) ≡ most → read_above above ≡ at_group wanted groups
    → length es + left ≡ wanted
    → IsGroupSoFar most limits text wanted es rest
    → (fault_left limits above (lines_of text) ≡ fault_left limits (above ++ map entry_text es) (lines_of rest))
    × IsInside most (above ++ map entry_text es) left (last_pair es) groups
group_so_far most bounded limits above groups wanted left text es rest some own so_far number was =
    let inside = subst (λ n. IsInside most above n None groups) (sym number) (inside_group most above groups wanted some own so_far) in
    let passed = entries_passed most bounded limits above [] es left groups (lines_of rest) inside was.entries (lines_some rest) in (
      ap (λ x. fault_left limits above (lines_of x)) was.cut
          ∙ ap (fault_left limits above) (lines_of_entries most bounded es rest was.entries.sides) ∙ passed.fault,
      passed.inside,
    )

number_after : (above : List (List ℕ)) (es : List Entry) (number : ℕ) → length above + 1 ≡ number
    → length (above ++ map entry_text es) + 1 ≡ number + length es
number_after above es number is = omega (arith, length-append above (map entry_text es), length-map es entry_text, is)

pub group_fault : (most : ℕ) → most < 2 ^ 32
    → (limits : Limits) (above : List (List ℕ)) (groups wanted left number at : ℕ) (text : List ℕ) (es : List Entry)
    (rest line below : List ℕ) (fault : JournalFault)
    → is_nil above ≡ false → length above + 1 ≡ number → greatest_count (slice_index_or above 0 []) ≡ most
    → read_above above ≡ at_group wanted groups
    → length es + suc left ≡ wanted → at ≡ number + length es → IsGroupSoFar most limits text wanted es rest
    → lines_of rest ≡ line ∷ lines_of below → next_entry most limits (last_pair es) line ≡ Err fault
    → fault_left limits above (lines_of text) ≡ Some (at, fault)
group_fault most bounded limits above groups wanted left number at text es rest line below fault some is_number own so_far more at_is was
    lines is =
    let now = group_so_far most bounded limits above groups wanted (suc left) text es rest some own so_far more was in
    let row =
    entry_row most limits (above ++ map entry_text es) line left (last_pair es) groups now.1
    ∙ ap (λ (r : Result Entry JournalFault). result_err r) is in
    now.0 ∙ ap (fault_left limits (above ++ map entry_text es)) lines
    ∙ stops limits (above ++ map entry_text es) line (lines_of below) fault (lines_some below) row
    ∙ at_line _ _ fault (number_after above es number is_number ∙ sym at_is)

pub group_truncated : (most : ℕ) → most < 2 ^ 32
    → (limits : Limits) (above : List (List ℕ)) (groups wanted left number at : ℕ) (text : List ℕ) (es : List Entry) (rest : List ℕ)
    → is_nil above ≡ false → length above + 1 ≡ number → greatest_count (slice_index_or above 0 []) ≡ most
    → read_above above ≡ at_group wanted groups
    → length es + left ≡ wanted → at ≡ number + length es → IsGroupSoFar most limits text wanted es rest → lines_of rest ≡ rest ∷ []
    → fault_left limits above (lines_of text) ≡ Some (at, Truncated)
group_truncated most bounded limits above groups wanted left number at text es rest some is_number own so_far more at_is was lines =
    let now = group_so_far most bounded limits above groups wanted left text es rest some own so_far more was in
    now.0 ∙ ap (fault_left limits (above ++ map entry_text es)) lines
    ∙ cut_short limits (above ++ map entry_text es) rest now.1.over
    ∙ at_line _ _ Truncated (number_after above es number is_number ∙ sym at_is)

pub wants_memory : (limits : Limits) (above : List (List ℕ)) (lines : List (List ℕ)) → is_nil above ≡ false
    → IsFromLine 2 (fault_left limits above lines)
wants_memory limits [] lines some = cc
wants_memory limits (first ∷ above) lines some = found_from line_fault limits 2 (first ∷ above) lines (omega arith)

-- ---- a journal, so far

-- the text below the header is the groups of these changes and what is left, which begins with the line of this number
pub record IsJournalSoFar (most : ℕ) (limits : Limits) (text : List ℕ) (cs : List (List Entry)) (line : ℕ) (rest : List ℕ) : Type 0 where
  pub groups : All (IsGroup most limits) cs
  pub within_limit : length cs ≤ changes_limit limits
  pub cut : text ≡ flat_map group_text cs ++ rest
  pub number : line ≡ length (flat_map group_lines cs) + 2
  pub small : line ≤ 2 + 2000001 * length cs

pub journal_standing : (most : ℕ) → most < 2 ^ 32 → (limits : Limits) (header : List ℕ) → greatest_count header ≡ most
    → (text : List ℕ) (cs : List (List Entry)) (number : ℕ) (rest : List ℕ) → IsJournalSoFar most limits text cs number rest
    → (fault_left limits (lines_down_to header []) (lines_of text) ≡ fault_left limits (lines_down_to header cs) (lines_of rest))
    × IsBetween most (lines_down_to header cs) (length cs)
journal_standing most bounded limits header own text cs number rest was =
    let passed =
    groups_passed most bounded limits (lines_down_to header []) 0 cs (lines_of rest) (between_start most header own) was.groups
    (omega (arith, was.within_limit)) (lines_some rest) in
    let whole : 0 + length cs ≡ length cs = omega arith in (
      ap (λ x. fault_left limits (lines_down_to header []) (lines_of x)) was.cut
          ∙ ap (fault_left limits (lines_down_to header [])) (lines_of_groups most bounded limits cs rest was.groups) ∙ passed.fault,
      subst (λ n. IsBetween most (lines_down_to header cs) n) whole passed.between,
    )

at_number : (header : List ℕ) (cs : List (List Entry)) (number : ℕ) → number ≡ length (flat_map group_lines cs) + 2
    → length (lines_down_to header cs) + 1 ≡ number
at_number header cs number is = omega (arith, is)

-- a fault of the next line
next_fault : (most : ℕ) → most < 2 ^ 32 → (limits : Limits) (header : List ℕ) → greatest_count header ≡ most
    → (text : List ℕ) (cs : List (List Entry)) (number : ℕ) (rest line below : List ℕ) (fault : JournalFault)
    → IsJournalSoFar most limits text cs number rest → lines_of rest ≡ line ∷ lines_of below
    → line_fault (place_below limits (lines_down_to header cs) line) ≡ Some fault
    → fault_left limits (lines_down_to header []) (lines_of text) ≡ Some (number, fault)
next_fault most bounded limits header own text cs number rest line below fault was lines is =
    (journal_standing most bounded limits header own text cs number rest was).0 ∙ ap (fault_left limits (lines_down_to header cs)) lines
    ∙ stops limits (lines_down_to header cs) line (lines_of below) fault (lines_some below) is
    ∙ at_line _ _ fault (at_number header cs number was.number)

pub size_fault : (most : ℕ) → most < 2 ^ 32 → (limits : Limits) (header : List ℕ) → greatest_count header ≡ most
    → (text : List ℕ) (cs : List (List Entry)) (number groups : ℕ) (rest line below : List ℕ) (fault : JournalFault)
    → IsJournalSoFar most limits text cs number rest → lines_of rest ≡ line ∷ lines_of below → is_end line ≡ false
    → groups ≡ length cs → next_size limits groups line ≡ Err fault
    → fault_left limits (lines_down_to header []) (lines_of text) ≡ Some (number, fault)
size_fault most bounded limits header own text cs number groups rest line below fault was lines no_end groups_are is =
    next_fault most bounded limits header own text cs number rest line below fault was lines
    (group_row most limits (lines_down_to header cs) line (length cs)
    (journal_standing most bounded limits header own text cs number rest was).1 no_end
    ∙ ap (λ (r : Result ℕ JournalFault). result_err r) (ap (λ n. next_size limits n line) (sym groups_are) ∙ is))

pub journal_truncated : (most : ℕ) → most < 2 ^ 32 → (limits : Limits) (header : List ℕ) → greatest_count header ≡ most
    → (text : List ℕ) (cs : List (List Entry)) (number : ℕ) (rest : List ℕ) → IsJournalSoFar most limits text cs number rest
    → lines_of rest ≡ rest ∷ []
    → fault_left limits (lines_down_to header []) (lines_of text) ≡ Some (number, Truncated)
journal_truncated most bounded limits header own text cs number rest was lines =
    let now = journal_standing most bounded limits header own text cs number rest was in
    now.0 ∙ ap (fault_left limits (lines_down_to header cs)) lines ∙ cut_short limits (lines_down_to header cs) rest now.1.over
    ∙ at_line _ _ Truncated (at_number header cs number was.number)

-- a group more

pub record IsBegun (limits : Limits) (header text : List ℕ) (cs : List (List Entry)) (number size : ℕ) (line below : List ℕ) : Type 0 where
  pub fault : fault_left limits (lines_down_to header []) (lines_of text)
      ≡ fault_left limits (lines_down_to header cs ++ line ∷ []) (lines_of below)
  pub so_far : read_above (lines_down_to header cs ++ line ∷ []) ≡ at_group size (length cs + 1)
  pub some : is_nil (lines_down_to header cs ++ line ∷ []) ≡ false
  pub place : length (lines_down_to header cs ++ line ∷ []) + 1 ≡ number + 1

pub group_sized : (limits : Limits) (cs : List (List Entry)) (groups size : ℕ) (line : List ℕ) → groups ≡ length cs
    → next_size limits groups line ≡ Ok size → IsSize limits (length cs) line size
group_sized limits cs groups size line groups_are is =
    line_from_size limits (length cs) line size (ap (λ n. next_size limits n line) (sym groups_are) ∙ is)

pub group_begins : (most : ℕ) → most < 2 ^ 32 → (limits : Limits) (header : List ℕ) → greatest_count header ≡ most
    → (text : List ℕ) (cs : List (List Entry)) (number groups size : ℕ) (rest line below : List ℕ)
    → IsJournalSoFar most limits text cs number rest → lines_of rest ≡ line ∷ lines_of below → is_end line ≡ false
    → groups ≡ length cs → next_size limits groups line ≡ Ok size → IsBegun limits header text cs number size line below
group_begins most bounded limits header own text cs number groups size rest line below was lines no_end groups_are is =
    let now = journal_standing most bounded limits header own text cs number rest was in
    let sized = ap (λ n. next_size limits n line) (sym groups_are) ∙ is in
    let writes = group_sized limits cs groups size line groups_are is in
    record {
      fault =
          now.0 ∙ ap (fault_left limits (lines_down_to header cs)) lines
          ∙ passes limits (lines_down_to header cs) line (lines_of below) (lines_some below)
          (group_row most limits (lines_down_to header cs) line (length cs) now.1 no_end
          ∙ ap (λ (r : Result ℕ JournalFault). result_err r) sized);
      so_far = group_begun most (lines_down_to header cs) line (length cs) size now.1 no_end writes.written;
      some = some_after_line (lines_down_to header cs) line;
      place = omega (arith, length_push (lines_down_to header cs) line, at_number header cs number was.number);
    }

lines_more : (cs : List (List Entry)) (es : List Entry)
    → length (flat_map group_lines (cs ++ es ∷ [])) ≡ length (flat_map group_lines cs) + 1 + length es
lines_more cs es =
    let more : length (flat_map group_lines (cs ++ es ∷ [])) ≡ length (flat_map group_lines cs ++ (group_lines es ++ [])) =
    ap length (sym (flat_map_more group_lines [] cs es)
    ∙ ap (λ ls. flat_map group_lines cs ++ ls) (sym (append-nil (group_lines es)))) in
    omega (
      arith,
      more,
      length-append (flat_map group_lines cs) (group_lines es ++ []),
      length-append (group_lines es) [],
      length-map es
          entry_text,
    )

pub journal_more : (most : ℕ) (limits : Limits) (text : List ℕ) (cs : List (List Entry)) (number size : ℕ) (rest line below after : List ℕ)
    (es : List Entry)
    → IsJournalSoFar most limits text cs number rest → IsSize limits (length cs) line size → rest ≡ line ++ 10 ∷ below
    → AreEntries most limits es → length es ≡ size → below ≡ flat_map entry_line es ++ after
    → IsJournalSoFar most limits text (cs ++ es ∷ []) (number + (1 + size)) after
unfolding group_text
journal_more most limits text cs number size rest line below after es was writes cut entries long parts = record {
  groups =
      All-push (IsGroup most limits) cs es was.groups
      (record { entries = entries; some = omega (arith, writes.some, long); within_limit = omega (arith, writes.within_limit, long) });
  within_limit = omega (arith, length_push cs es, writes.room);
  cut =
      was.cut
      ∙ ap (λ x. flat_map group_text cs ++ x)
      (cut ∙ ap₂ (λ (l b : List ℕ). l ++ 10 ∷ b) (writes.text ∙ ap change_text (sym long)) parts
      ∙ sym (append_assoc (change_text (length es)) (10 ∷ []) (flat_map entry_line es ++ after))
      ∙ ap (λ x. x ++ (flat_map entry_line es ++ after)) (sym (change_with_feed es))
      ∙ sym (append_assoc (change_line es) (flat_map entry_line es) after))
      ∙ sym (append_assoc (flat_map group_text cs) (group_text es) after)
      ∙ ap (λ x. x ++ after) (flat_map_more group_text [] cs es);
  number = omega (arith, lines_more cs es, was.number, long);
  small = omega (arith, length_push cs es, was.small, writes.within_limit);
}

-- ---- the end line

end_sound : (most : ℕ) (limits : Limits) (above : List (List ℕ)) (groups : ℕ) (line : List ℕ) → IsBetween most above groups
    → is_end line ≡ true → line ≡ end_text groups → line_fault (place_below limits above line) ≡ None
end_sound most limits above groups line is end same =
    end_row most limits above line groups is end ∙ cond-false _ _ _ (ap not ((bytes_eq-Decides line (end_text groups)).1 same))

pub end_fault : (most : ℕ) (limits : Limits) (above : List (List ℕ)) (groups : ℕ) (line : List ℕ) → IsBetween most above groups
    → is_end line ≡ true → (line ≡ end_text groups → ⊥) → line_fault (place_below limits above line) ≡ Some BadEnd
end_fault most limits above groups line is end other =
    end_row most limits above line groups is end
    ∙ cond-true _ _ _
    (ap not (false_from_ne_true (bytes_eq line (end_text groups)) (λ same. other ((bytes_eq-Decides line (end_text groups)).0 same))))

pub journal_bad_end : (most : ℕ) → most < 2 ^ 32 → (limits : Limits) (header : List ℕ) → greatest_count header ≡ most
    → (text : List ℕ) (cs : List (List Entry)) (number groups : ℕ) (rest line below : List ℕ)
    → IsJournalSoFar most limits text cs number rest → lines_of rest ≡ line ∷ lines_of below → is_end line ≡ true
    → groups ≡ length cs → (line ≡ end_text groups → ⊥)
    → fault_left limits (lines_down_to header []) (lines_of text) ≡ Some (number, BadEnd)
journal_bad_end most bounded limits header own text cs number groups rest line below was lines end groups_are other =
    next_fault most bounded limits header own text cs number rest line below BadEnd was lines
    (end_fault most limits (lines_down_to header cs) (length cs) line
    (journal_standing most bounded limits header own text cs number rest was).1 end (λ is. other (is ∙ ap end_text (sym groups_are))))

last_fault : (most : ℕ) (limits : Limits) (above : List (List ℕ)) (groups : ℕ) (line last : List ℕ) (lines : List (List ℕ))
    → IsBetween most above groups → is_end line ≡ true
    → line_fault (place limits (above ++ line ∷ []) last lines) ≡ cond (not (is_nil lines) || not (is_nil last)) (Some TrailingBytes) None
last_fault most limits above groups line last lines is end =
    after_row (place limits (above ++ line ∷ []) last lines) (some_after_line above line) (over_after most above line groups is end)

pub nothing_after : (most : ℕ) (limits : Limits) (above : List (List ℕ)) (groups : ℕ) (line : List ℕ) → IsBetween most above groups
    → is_end line ≡ true → line ≡ end_text groups → fault_left limits above (line ∷ [] ∷ []) ≡ None
nothing_after most limits above groups line is end same =
    passes limits above line ([] ∷ []) refl (end_sound most limits above groups line is end same)
    ∙ found_later line_fault limits (above ++ line ∷ []) [] [] (last_fault most limits above groups line [] [] is end)
    ∙ found_nowhere line_fault limits ((above ++ line ∷ []) ++ [] ∷ [])

pub bytes_after : (most : ℕ) (limits : Limits) (above : List (List ℕ)) (groups : ℕ) (line last : List ℕ) (lines : List (List ℕ))
    → IsBetween most above groups → is_end line ≡ true → line ≡ end_text groups → (not (is_nil lines) || not (is_nil last)) ≡ true
    → fault_left limits above (line ∷ last ∷ lines) ≡ Some (length above + 2, TrailingBytes)
bytes_after most limits above groups line last lines is end same some =
    passes limits above line (last ∷ lines) refl (end_sound most limits above groups line is end same)
    ∙ found_here line_fault limits (above ++ line ∷ []) last lines TrailingBytes
    (last_fault most limits above groups line last lines is end ∙ cond-true _ _ _ some)
    ∙ at_line _ _ TrailingBytes (omega (arith, length_push above line))

pub journal_trailing : (most : ℕ) → most < 2 ^ 32 → (limits : Limits) (header : List ℕ) → greatest_count header ≡ most
    → (text : List ℕ) (cs : List (List Entry)) (number groups : ℕ) (rest line below : List ℕ)
    → IsJournalSoFar most limits text cs number rest → lines_of rest ≡ line ∷ lines_of below → is_end line ≡ true
    → groups ≡ length cs → line ≡ end_text groups → is_nil below ≡ false
    → fault_left limits (lines_down_to header []) (lines_of text) ≡ Some (number + 1, TrailingBytes)
journal_trailing most bounded limits header own text cs number groups rest line below was lines end groups_are is some =
    let now = journal_standing most bounded limits header own text cs number rest was in
    let parts = lines_split (lines_of below) (lines_some below) in
    now.0 ∙ ap (fault_left limits (lines_down_to header cs)) (lines ∙ ap (λ ls. line ∷ ls) parts.2)
    ∙ bytes_after most limits (lines_down_to header cs) (length cs) line parts.0 parts.1 now.1 end (is ∙ ap end_text groups_are)
    (some_after below parts.0 parts.1 some parts.2)
    ∙ at_line _ _ TrailingBytes (omega (arith, at_number header cs number was.number))

pub journal_ends : (most : ℕ) (limits : Limits) (text : List ℕ) (cs : List (List Entry)) (number groups : ℕ) (rest line below : List ℕ)
    → IsJournalSoFar most limits text cs number rest → rest ≡ line ++ 10 ∷ below → groups ≡ length cs → line ≡ end_text groups → below ≡ []
    → text ≡ flat_map group_text cs ++ last_line cs
journal_ends most limits text cs number groups rest line below was cut groups_are is none =
    was.cut ∙ ap (λ x. flat_map group_text cs ++ x)
    (cut ∙ ap₂ (λ (l b : List ℕ). l ++ 10 ∷ b) (is ∙ ap end_text groups_are) none ∙ sym (end_with_feed cs))
