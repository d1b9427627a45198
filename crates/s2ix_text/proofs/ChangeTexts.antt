-- The line that begins a group, and the end line: how they are cut, and what they write.
use Rattle.std.proofs.Common.{⊎_elim, ◌≡◌, ℕ, ◌^◌, ◌<◌, ◌≤◌, ◌↔◌, Bool, true, false, cond, Option, Some, None, Result, Ok, Err, List, [], ◌∷◌, ◌++◌, All, length, refl, sym, ap, ◌∙◌, arith, append_assoc}
use Rattle.std.specs.Prelude.{codes, decimal, slice_index_or}
use Rattle.std.specs.Str.{bytes_eq}
use Rattle.std.proofs.lemmas.Bool.{and_from, and_left, and_parts, and_right, false_from_ne_true, cond-true, cond-false, cases_lt, le-leb, lt-leb}
use Rattle.std.proofs.lemmas.Fmt.{decimal_nonempty}
use Rattle.std.proofs.lemmas.List.Elements.{All-cons, All-nil}
use Rattle.std.proofs.lemmas.Slice.Eq.{bytes_eq-Decides}
use Rattle.s2ix_bag_pairs.specs.Limits.{changes_limit}
use Rattle.s2ix_bag_pairs.specs.declared.limits.Limits.{Limits}
use Rattle.s2ix_bag_pairs.specs.declared.pair.Entry.{Entry}
use Rattle.s2ix_text_write.specs.Journal.{change_line, last_line}
use Rattle.s2ix_text_write.proofs.Journals.{IsGraphic, decimal_graphic}
use Rattle.s2ix_text_parts.specs.Lines.{has_parts, part, parts_of}
use Rattle.s2ix_text_parts.proofs.PartCounts.{graphic_lacks, lacks_feed_more, parts_last, parts_more, two_are, two_from_parts, two_joined}
use Rattle.s2ix_text_parts.proofs.Pieces.{Lacks, is_some_text}
use Rattle.s2ix_text.specs.declared.journal_error.JournalFault.{JournalFault}
use Rattle.s2ix_text.specs.declared.journal_error.JournalFault.TheVariants.{BadLine, TooManyChanges}
use Rattle.s2ix_text.specs.JournalFaults.{end_text, is_change, is_end}
use Rattle.s2ix_text.specs.JournalLines.{change_text, next_size, size_after, size_of_part}
use Rattle.s2ix_text.specs.Numbers.{size_written}
use Rattle.s2ix_text.proofs.NumberTexts.{size_of_digits, written_size}

-- ---- the end line

end_graphic : All IsGraphic (codes "end")
end_graphic =
    All-cons IsGraphic 101 (110 ∷ 100 ∷ []) (omega arith)
    (All-cons IsGraphic 110 (100 ∷ []) (omega arith) (All-cons IsGraphic 100 [] (omega arith) (All-nil IsGraphic)))

end_parts : (groups : ℕ) → groups < 2 ^ 64 → parts_of (end_text groups) ≡ codes "end" ∷ decimal groups ∷ []
end_parts groups within_limit =
    parts_more (codes "end") (decimal groups) end_graphic
    ∙ ap (λ (ps : List (List ℕ)). codes "end" ∷ ps) (parts_last (decimal groups) (decimal_graphic groups within_limit))

pub end_lacks_feed : (groups : ℕ) → groups < 2 ^ 64 → Lacks 10 (end_text groups)
end_lacks_feed groups within_limit =
    lacks_feed_more (codes "end") (decimal groups) end_graphic
    (graphic_lacks 10 (decimal groups) (omega arith) (decimal_graphic groups within_limit))

pub end_has_parts : (groups : ℕ) → groups < 2 ^ 64 → has_parts 2 (end_text groups) ≡ true
end_has_parts groups within_limit =
    two_from_parts (end_text groups) (codes "end") (decimal groups) (end_parts groups within_limit) refl
    (is_some_text _ (decimal_nonempty groups within_limit))

pub end_is_end : (groups : ℕ) → groups < 2 ^ 64 → is_end (end_text groups) ≡ true
end_is_end groups within_limit = ap (λ (ps : List (List ℕ)). bytes_eq (slice_index_or ps 0 []) (codes "end")) (end_parts groups within_limit)

pub end_with_feed : (changes : List (List Entry)) → last_line changes ≡ end_text (length changes) ++ 10 ∷ []
unfolding last_line
end_with_feed changes = simp append_assoc

-- what the code of `is_end_of` tests
pub end_tested : (line a b digits : List ℕ) (groups : ℕ) (r : Bool) → is_end line ≡ true → parts_of line ≡ a ∷ b ∷ [] → groups < 2 ^ 64
    → r ≡ bytes_eq b digits → digits ≡ decimal groups
    → (r ≡ true) ↔ (line ≡ end_text groups)
end_tested line a b digits groups r end are within_limit r_is digits_are = (
  λ holds.
      let first : a ≡ codes "end" =
      (bytes_eq-Decides a (codes "end")).0
      (sym (ap (λ (ps : List (List ℕ)). bytes_eq (slice_index_or ps 0 []) (codes "end")) are) ∙ end) in
      let second : b ≡ decimal groups = (bytes_eq-Decides b digits).0 (sym r_is ∙ holds) ∙ digits_are in
      two_joined line a b are ∙ rw (first, second) refl,
  λ is.
      let same : a ∷ b ∷ [] ≡ codes "end" ∷ decimal groups ∷ [] = sym are ∙ ap parts_of is ∙ end_parts groups within_limit in
      let second : b ≡ decimal groups = ap (λ (ps : List (List ℕ)). slice_index_or ps 1 []) same in
      r_is ∙ (bytes_eq-Decides b digits).1 (second ∙ sym digits_are),
)

-- ---- the line that begins a group

change_graphic : All IsGraphic (codes "change")
change_graphic =
    All-cons IsGraphic 99 (104 ∷ 97 ∷ 110 ∷ 103 ∷ 101 ∷ []) (omega arith) (All-cons IsGraphic 104 (97 ∷ 110 ∷ 103 ∷ 101 ∷ []) (omega arith)
    (All-cons IsGraphic 97 (110 ∷ 103 ∷ 101 ∷ []) (omega arith) (All-cons IsGraphic 110 (103 ∷ 101 ∷ []) (omega arith)
    (All-cons IsGraphic 103 (101 ∷ []) (omega arith) (All-cons IsGraphic 101 [] (omega arith) (All-nil IsGraphic))))))

change_parts : (size : ℕ) → size < 2 ^ 64 → parts_of (change_text size) ≡ codes "change" ∷ decimal size ∷ []
unfolding change_text
change_parts size within_limit =
    parts_more (codes "change") (decimal size) change_graphic
    ∙ ap (λ (ps : List (List ℕ)). codes "change" ∷ ps) (parts_last (decimal size) (decimal_graphic size within_limit))

pub change_lacks_feed : (size : ℕ) → size < 2 ^ 64 → Lacks 10 (change_text size)
unfolding change_text
change_lacks_feed size within_limit =
    lacks_feed_more (codes "change") (decimal size) change_graphic
    (graphic_lacks 10 (decimal size) (omega arith) (decimal_graphic size within_limit))

pub change_with_feed : (es : List Entry) → change_line es ≡ change_text (length es) ++ 10 ∷ []
unfolding change_line change_text
change_with_feed es = simp append_assoc

change_is_change : (size : ℕ) → size < 2 ^ 64 → is_change (change_text size) ≡ true
change_is_change size within_limit =
    and_from _ _
    (two_from_parts (change_text size) (codes "change") (decimal size) (change_parts size within_limit) refl
    (is_some_text _ (decimal_nonempty size within_limit)))
    (ap (λ (ps : List (List ℕ)). bytes_eq (slice_index_or ps 0 []) (codes "change")) (change_parts size within_limit))

pub change_is_no_end : (size : ℕ) → size < 2 ^ 64 → is_end (change_text size) ≡ false
change_is_no_end size within_limit = ap (λ (ps : List (List ℕ)). bytes_eq (slice_index_or ps 0 []) (codes "end")) (change_parts size within_limit)

size_of_change : (size : ℕ) → 1 ≤ size → size ≤ 2000000 → size_written (part 1 (change_text size)) ≡ Some size
size_of_change size some within_limit =
    ap (λ (ps : List (List ℕ)). size_written (slice_index_or ps 1 [])) (change_parts size (omega arith)) ∙ size_of_digits size some within_limit

-- what a line writes, from its parts
pub size_by : (limits : Limits) (groups : ℕ) (line : List ℕ) (size : Option ℕ) → is_change line ≡ true → size_written (part 1 line) ≡ size
    → next_size limits groups line ≡ size_after limits groups (size_of_part size)
unfolding next_size
size_by limits groups line size change is = ap (size_after limits groups) (cond-true (is_change line) _ _ change ∙ ap size_of_part is)

pub size_unless : (limits : Limits) (groups : ℕ) (line : List ℕ) → is_change line ≡ false → next_size limits groups line ≡ Err BadLine
unfolding next_size
size_unless limits groups line change = ap (size_after limits groups) (cond-false (is_change line) _ _ change)

pub size_of_text : (limits : Limits) (groups size : ℕ) → 1 ≤ size → size ≤ 2000000 → groups < changes_limit limits
    → next_size limits groups (change_text size) ≡ Ok size
size_of_text limits groups size some within_limit room =
    size_by limits groups (change_text size) (Some size) (change_is_change size (omega arith)) (size_of_change size some within_limit)
    ∙ cond-false _ _ _ (lt-leb (changes_limit limits) groups room)

-- and no other line writes it

pub record IsSize (limits : Limits) (groups : ℕ) (line : List ℕ) (size : ℕ) : Type 0 where
  pub text : line ≡ change_text size
  pub some : 1 ≤ size
  pub within_limit : size ≤ 2000000
  pub room : groups < changes_limit limits
  pub written : size_written (part 1 line) ≡ Some size

text_from_size : (line : List ℕ) (size : ℕ) → is_change line ≡ true → size_written (part 1 line) ≡ Some size → line ≡ change_text size
unfolding change_text
text_from_size line size change is =
    let both = and_parts (has_parts 2 line) _ change in
    two_joined line (part 0 line) (part 1 line) (two_are line both.0)
    ∙ rw ((bytes_eq-Decides (part 0 line) (codes "change")).0 both.1, (written_size (part 1 line) size is).0) refl

size_at : (limits : Limits) (groups : ℕ) (line : List ℕ) (size : ℕ) (change : Bool) (written : Option ℕ) → is_change line ≡ change
    → size_written (part 1 line) ≡ written
    → size_after limits groups (cond change (size_of_part written) (Err BadLine)) ≡ Ok size → IsSize limits groups line size
size_at limits groups line size false written a b is = cc
size_at limits groups line size true None a b is = cc
size_at limits groups line size true (Some n) a b is =
    ⊎_elim
    (λ room.
    let same : ◌≡◌ {A = Result ℕ JournalFault} (Ok n) (Ok size) = sym (cond-false _ _ _ (lt-leb (changes_limit limits) groups room)) ∙ is in
    let equal : n ≡ size = cc in
    let written : size_written (part 1 line) ≡ Some size = b ∙ ap Some equal in
    let range = written_size (part 1 line) size written in
    record { text = text_from_size line size a written; some = range.1; within_limit = range.2; room = room; written = written })
    (λ full. let clash : ◌≡◌ {A = Result ℕ JournalFault} (Err TooManyChanges) (Ok size) =
    sym (cond-true _ _ _ (le-leb (changes_limit limits) groups full)) ∙ is in cc)
    (cases_lt groups (changes_limit limits))

pub line_from_size : (limits : Limits) (groups : ℕ) (line : List ℕ) (size : ℕ) → next_size limits groups line ≡ Ok size
    → IsSize limits groups line size
unfolding next_size
line_from_size limits groups line size is = size_at limits groups line size (is_change line) (size_written (part 1 line)) refl refl is

-- ---- what the code of `next_size` tests

pub no_change_parts : (line : List ℕ) → has_parts 2 line ≡ false → is_change line ≡ false
no_change_parts line two = and_left (has_parts 2 line) _ two

pub no_change_word : (line a b : List ℕ) → parts_of line ≡ a ∷ b ∷ [] → (a ≡ codes "change" → ⊥) → is_change line ≡ false
no_change_word line a b are other =
    and_right (has_parts 2 line) _
    (ap (λ (ps : List (List ℕ)). bytes_eq (slice_index_or ps 0 []) (codes "change")) are
    ∙ false_from_ne_true (bytes_eq a (codes "change")) (λ same. other ((bytes_eq-Decides a (codes "change")).0 same)))

pub change_from_word : (line a b : List ℕ) → has_parts 2 line ≡ true → parts_of line ≡ a ∷ b ∷ [] → a ≡ codes "change"
    → is_change line ≡ true
change_from_word line a b two are is =
    and_from _ _ two (ap (λ (ps : List (List ℕ)). bytes_eq (slice_index_or ps 0 []) (codes "change")) are
    ∙ (bytes_eq-Decides a (codes "change")).1 is)
