-- What each refusal of a journal says of the line that it names.
use Rattle.std.proofs.Common.{◌≡◌, ◌≢◌, ◌↔◌, ◌==◌, ℕ, ◌<◌, ◌≤◌, ◌⊎◌, inl, inr, ◌&&◌, ◌||◌, Bool, true, false, not, cond, max, Some, None, Result, Ok, Err, OnOk, IfErr, List, [], length, refl, sym, ap, ◌∙◌, subst, arith}
use Rattle.std.specs.Prelude.{is_none, nat_lt}
use Rattle.std.proofs.lemmas.Bool.{and_parts, cond-true, eqb-true, leb-true, ltb-true, not-true}
use Rattle.std.proofs.Math.Nat.{le-max_left, le-max_right}
use Rattle.s2ix_bag_pairs.specs.Limits.{changes_limit, count_limit}
use Rattle.s2ix_bag_pairs.specs.declared.limits.Limits.{Limits}
use Rattle.s2ix_text_write.specs.Version.{journal_version}
use Rattle.s2ix_text.specs.declared.journal_error.JournalError.{JournalError}
use Rattle.s2ix_text.specs.declared.journal_error.JournalError.TheVariants.{At, OutOfMemory}
use Rattle.s2ix_text.specs.declared.journal_error.JournalFault.{JournalFault}
use Rattle.s2ix_text.specs.declared.journal_error.JournalFault.TheVariants.{Truncated, BadHeader, BadEnd, BadLine, BadToken, BadLabel, BadCount, NoDifference, Unsorted, TooManyCopies, TooManyChanges, TrailingBytes}
use Rattle.s2ix_text.specs.JournalFaults.{IsJournalError, after_of_line, before_of_line, read_above, is_end, is_first, is_inner, is_of_entry, is_of_group, is_outside, is_over, journal_fault, journal_faults, line_fault, is_due}
use Rattle.s2ix_text.specs.Forms.{lacks_counts, lacks_form}
use Rattle.s2ix_text_parts.specs.LineFaults.{LineAt, fault_below}
use Rattle.s2ix_text_parts.specs.Lines.{lines_of, part}
use Rattle.s2ix_text_parts.specs.NumberedLines.{line_at, lines_above, place_at}
use Rattle.s2ix_text_parts.specs.Written.{cell_written, comes_before, label_written, pair_written}
use Rattle.s2ix_text_parts.proofs.FaultsTold.{AreErrors, AreFaults, TellsLines, tells_lines}
use Rattle.s2ix_text_parts.proofs.Found.{find_passes}
use Rattle.s2ix_text_parts.proofs.NumberedLines.{none_from}
use Rattle.s2ix_text.proofs.JournalRows.{header_row, truncated_row}

-- ---- the fault of the line

-- the fault that is found in a line is due there
fault_is_due : (p : LineAt) (fault : JournalFault) → line_fault p ≡ Some fault → is_due p fault ≡ true
unfolding line_fault
fault_is_due p fault is = find_passes (is_due p) journal_faults fault is

-- ---- when each fault is due

bad_end_there : (p : LineAt) → is_due p BadEnd ≡ true → is_end p.line ≡ true
unfolding is_due
bad_end_there p is = (and_parts (is_outside p) (is_end p.line) (and_parts (is_outside p && is_end p.line) _ is).0).1

bad_token_there : (p : LineAt) → is_due p BadToken ≡ true → cell_written (part 0 p.line) ≡ None
unfolding is_due
bad_token_there p is = none_from (cell_written (part 0 p.line)) (and_parts (is_of_entry p) _ is).1

bad_label_there : (p : LineAt) → is_due p BadLabel ≡ true → label_written (part 1 p.line) ≡ None
unfolding is_due
bad_label_there p is = none_from (label_written (part 1 p.line)) (and_parts (is_of_entry p) _ is).1

no_difference_there : (p : LineAt) → is_due p NoDifference ≡ true → before_of_line p ≡ after_of_line p
unfolding is_due
no_difference_there p is = eqb-true (before_of_line p) (after_of_line p) (and_parts (is_of_entry p) _ is).1

unsorted_there : (p : LineAt) → is_due p Unsorted ≡ true → comes_before (read_above p.above).last (pair_written p.line) ≡ false
unfolding is_due
unsorted_there p is = not-true _ (and_parts (is_of_entry p) _ is).1

above_either : (limit m n : ℕ) (low high : Bool) → nat_lt limit m ≡ low → nat_lt limit n ≡ high → (low || high) ≡ true → limit < max m n
above_either limit m n true high a b is = let over = ltb-true limit m a in let most : m ≤ max m n = le-max_left m n in omega arith
above_either limit m n false true a b is = let over = ltb-true limit n b in let most : n ≤ max m n = le-max_right m n in omega arith
above_either limit m n false false a b is = cc

copies_there : (p : LineAt) → is_due p TooManyCopies ≡ true → count_limit p.limits < max (before_of_line p) (after_of_line p)
unfolding is_due
copies_there p is =
    above_either (count_limit p.limits) (before_of_line p) (after_of_line p) _ _ refl refl (and_parts (is_of_entry p) _ is).1

changes_there : (p : LineAt) → is_due p TooManyChanges ≡ true → changes_limit p.limits ≤ (read_above p.above).groups
unfolding is_due
changes_there p is = leb-true (changes_limit p.limits) (read_above p.above).groups (and_parts (is_of_group p) _ is).1

trailing_there : (p : LineAt) → is_due p TrailingBytes ≡ true → (read_above p.above).over ≡ true
unfolding is_due
trailing_there p is = (and_parts (is_over p) _ is).0

truncated_there : (p : LineAt) → is_due p Truncated ≡ true → p.ended ≡ false
unfolding is_due
truncated_there p is = not-true p.ended (and_parts (not (is_over p)) _ is).1

header_there : (p : LineAt) → is_due p BadHeader ≡ true → journal_version p.line ≡ None
unfolding is_due
header_there p is = none_from (journal_version p.line) (and_parts (is_first p) _ is).1

-- of two tests the one of the line's kind
of_kind : (inner outside end x y : Bool) → ((((inner && outside) && not end) && x) || ((inner && not outside) && y)) ≡ true
    → cond outside x y ≡ true
of_kind inner true end true y is = refl
of_kind true true true false y is = cc
of_kind true true false false y is = cc
of_kind false true end false y is = cc
of_kind inner false end x true is = refl
of_kind true false end x false is = cc
of_kind false false end x false is = cc

bad_line_there : (p : LineAt) → is_due p BadLine ≡ true → lacks_form p ≡ true
unfolding is_due
bad_line_there p is = of_kind (is_inner p) ((read_above p.above).wanted == 0) (is_end p.line) _ _ is

bad_count_there : (p : LineAt) → is_due p BadCount ≡ true → lacks_counts p ≡ true
unfolding is_due
bad_count_there p is = of_kind (is_inner p) ((read_above p.above).wanted == 0) (is_end p.line) _ _ is

-- ---- the first line

-- the first fault of a text is that of its first line that has one
found_is : (limits : Limits) (text : List ℕ) → journal_fault limits text ≡ fault_below line_fault limits [] (lines_of text)
unfolding journal_fault
found_is limits text = refl

-- nothing is over before the first line
not_over : (above : List (List ℕ)) → above ≡ [] → (read_above above).over ≡ false
unfolding read_above
not_over above first = ap (λ (lines : List (List ℕ)). (read_above lines).over) first

faults : AreFaults line_fault Truncated BadHeader journal_version
faults = record {
  differ = λ same. cc;
  no_feed = λ p first open_end. truncated_row p (not_over p.above first) open_end;
  no_header = λ limits line none. header_row limits line ∙ cond-true _ _ _ (ap is_none none);
  open_end = λ p is. truncated_there p (fault_is_due p Truncated is);
  unnamed = λ p is. header_there p (fault_is_due p BadHeader is);
}

-- a fault with the number of its line
abbrev at_line : ℕ → JournalFault → JournalError
at_line line fault = At line fault

-- an error is that, or want of memory
either : (error : JournalError) → ((named : ℕ × JournalFault) × (error ≡ At named.0 named.1)) ⊎ (error ≡ OutOfMemory)
either (At line fault) = inl ((line, fault), refl)
either OutOfMemory = inr refl

errors : AreErrors at_line OutOfMemory IsJournalError
errors = record { at_is = λ line fault found is. is; memory_is = λ found is. is; either = either }

-- ---- what an answer tells

-- if a reader answers so
pub record Answers {X : Type 0} (limits : Limits) (text : List ℕ) (r : Result X JournalError) : Type 0 where
  pub no_feed : (r ≡ Err (At 1 Truncated)) ↔ (length (lines_of text) ≡ 1)
  pub bad_header : (r ≡ Err (At 1 BadHeader)) ↔ ((1 < length (lines_of text)) × (journal_version (line_at 1 text) ≡ None))
  pub memory : r ≡ Err OutOfMemory → journal_version (line_at 1 text) ≢ None
  pub truncated : (line : ℕ) → r ≡ Err (At line Truncated) → line ≡ length (lines_of text)
  pub bad_end : (line : ℕ) → r ≡ Err (At line BadEnd) → is_end (line_at line text) ≡ true
  pub bad_line : (line : ℕ) → r ≡ Err (At line BadLine) → lacks_form (place_at limits line text) ≡ true
  pub bad_token : (line : ℕ) → r ≡ Err (At line BadToken) → cell_written (part 0 (line_at line text)) ≡ None
  pub bad_label : (line : ℕ) → r ≡ Err (At line BadLabel) → label_written (part 1 (line_at line text)) ≡ None
  pub bad_count : (line : ℕ) → r ≡ Err (At line BadCount) → lacks_counts (place_at limits line text) ≡ true
  pub no_difference : (line : ℕ) → r ≡ Err (At line NoDifference)
      → before_of_line (place_at limits line text) ≡ after_of_line (place_at limits line text)
  pub unsorted : (line : ℕ) → r ≡ Err (At line Unsorted)
      → comes_before (read_above (lines_above line text)).last (pair_written (line_at line text)) ≡ false
  pub too_many_copies : (line : ℕ) → r ≡ Err (At line TooManyCopies)
      → count_limit limits < max (before_of_line (place_at limits line text)) (after_of_line (place_at limits line text))
  pub too_many_changes : (line : ℕ) → r ≡ Err (At line TooManyChanges) → changes_limit limits ≤ (read_above (lines_above line text)).groups
  pub trailing : (line : ℕ) → r ≡ Err (At line TrailingBytes) → (read_above (lines_above line text)).over ≡ true

-- so much of the lines
abbrev Lines : {X : Type 0} → Limits → List ℕ → Result X JournalError → Type 0
Lines limits text r = TellsLines at_line OutOfMemory line_fault Truncated BadHeader journal_version limits text r

-- the line that an error names has its fault
there : {X : Type 0} (limits : Limits) (text : List ℕ) (r : Result X JournalError) (line : ℕ) (fault : JournalFault) → Lines limits text r
    → r ≡ Err (At line fault) → is_due (place_at limits line text) fault ≡ true
there limits text r line fault lines is = fault_is_due (place_at limits line text) fault (lines.of_line line fault is).has

pub answers : {X : Type 0} (limits : Limits) (text : List ℕ) (r : Result X JournalError) → OnOk r (journal_fault limits text ≡ None)
    → IfErr r (λ error. IsJournalError error (journal_fault limits text)) → Answers limits text r
answers limits text r accepted refused =
    let at = λ (line : ℕ). place_at limits line text in
    let told : Lines limits text r =
    tells_lines errors faults limits text (journal_fault limits text) r (found_is limits text) accepted refused in
    record {
      no_feed = told.one_line;
      bad_header = told.other_header;
      memory = told.wants;
      truncated = told.last;
      bad_end = λ line is. bad_end_there (at line) (there limits text r line BadEnd told is);
      bad_line = λ line is. bad_line_there (at line) (there limits text r line BadLine told is);
      bad_token = λ line is. bad_token_there (at line) (there limits text r line BadToken told is);
      bad_label = λ line is. bad_label_there (at line) (there limits text r line BadLabel told is);
      bad_count = λ line is. bad_count_there (at line) (there limits text r line BadCount told is);
      no_difference = λ line is. no_difference_there (at line) (there limits text r line NoDifference told is);
      unsorted = λ line is. unsorted_there (at line) (there limits text r line Unsorted told is);
      too_many_copies = λ line is. copies_there (at line) (there limits text r line TooManyCopies told is);
      too_many_changes = λ line is. changes_there (at line) (there limits text r line TooManyChanges told is);
      trailing = λ line is. trailing_there (at line) (there limits text r line TrailingBytes told is);
    }

-- if it answers an error
pub answers_error : {X : Type 0} (limits : Limits) (text : List ℕ) (r : Result X JournalError) (error : JournalError) → r ≡ Err error
    → IsJournalError error (journal_fault limits text) → Answers limits text r
answers_error {X = X} limits text r error is refused =
    let Told : Result X JournalError → Type 0 = λ x. Answers limits text x in
    subst Told (sym is) (answers limits text (Err error) tt refused)

-- and if it answers what it read
pub answers_read : {X : Type 0} (limits : Limits) (text : List ℕ) (x : X) → journal_fault limits text ≡ None → Answers limits text (Ok x)
answers_read limits text x accepted = answers limits text (Ok x) accepted tt
