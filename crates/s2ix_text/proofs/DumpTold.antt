-- What each refusal of a dump says of the line that it names.
use Rattle.std.proofs.Common.{◌≡◌, ◌≢◌, ◌↔◌, ℕ, zero, suc, ◌+◌, ◌-◌, ◌<◌, ◌≤◌, ◌⊎◌, inl, inr, ◌&&◌, Bool, true, false, not, Option, Some, None, Result, Ok, Err, OnOk, IfErr, List, [], ◌∷◌, length, take, drop, refl, sym, ap, ◌∙◌, subst, arith}
use Rattle.std.specs.Prelude.{is_none, slice_index_or}
use Rattle.std.specs.List.{list_any}
use Rattle.std.specs.Option.{option_and_then}
use Rattle.std.proofs.lemmas.Bool.{and_parts, cond-true, leb-true, ltb-true, not-true, or_right}
use Rattle.std.proofs.lemmas.List.{length-drop, length-take-le}
use Rattle.s2ix_bag_pairs.specs.Limits.{count_limit, pairs_limit}
use Rattle.s2ix_bag_pairs.specs.declared.limits.Limits.{Limits}
use Rattle.s2ix_bag_pairs.specs.declared.pair.Pair.{Pair}
use Rattle.s2ix_text_write.specs.Version.{dump_version}
use Rattle.s2ix_text.specs.declared.dump_error.DumpError.{DumpError}
use Rattle.s2ix_text.specs.declared.dump_error.DumpError.TheVariants.{At, OutOfMemory}
use Rattle.s2ix_text.specs.declared.dump_error.DumpFault.{DumpFault}
use Rattle.s2ix_text.specs.declared.dump_error.DumpFault.TheVariants.{Truncated, BadHeader, BadEnd, BadLine, BadToken, BadLabel, BadCount, Unsorted, TooManyCopies, TooManyPairs, TrailingBytes}
use Rattle.s2ix_text.specs.DumpFaults.{IsDumpError, dump_fault, dump_faults, greatest_count, is_end, is_first, is_inner, is_of_pair, is_over, line_fault, pairs_above, is_due}
use Rattle.s2ix_text_parts.specs.LineFaults.{LineAt, fault_below, header_of}
use Rattle.s2ix_text_parts.specs.Lines.{has_parts, is_nil, last_of, lines_of, part}
use Rattle.s2ix_text_parts.specs.NumberedLines.{line_at, lines_above, place_at}
use Rattle.s2ix_text_parts.specs.Written.{cell_written, comes_before, count_of_line, count_written, label_written, pair_written}
use Rattle.s2ix_text_parts.proofs.FaultsTold.{AreErrors, AreFaults, TellsLines, tells_lines}
use Rattle.s2ix_text_parts.proofs.Found.{find_passes}
use Rattle.s2ix_text_parts.proofs.NumberedLines.{none_from, same_header}
use Rattle.s2ix_text.proofs.DumpRows.{header_row, truncated_row}

-- ---- the fault of the line

-- the fault that is found in a line is due there
fault_is_due : (p : LineAt) (fault : DumpFault) → line_fault p ≡ Some fault → is_due p fault ≡ true
unfolding line_fault
fault_is_due p fault is = find_passes (is_due p) dump_faults fault is

-- ---- when each fault is due

inner_of_pair : (p : LineAt) → is_of_pair p ≡ true → is_nil p.above ≡ false
inner_of_pair p is =
    not-true (is_first p) (and_parts (not (is_first p)) (not (is_over p)) (and_parts (is_inner p) (not (is_end p.line)) is).0).0

bad_end_there : (p : LineAt) → is_due p BadEnd ≡ true → is_end p.line ≡ true
unfolding is_due
bad_end_there p is = (and_parts (is_inner p) (is_end p.line) (and_parts (is_inner p && is_end p.line) _ is).0).1

bad_line_there : (p : LineAt) → is_due p BadLine ≡ true → has_parts 3 p.line ≡ false
unfolding is_due
bad_line_there p is = not-true (has_parts 3 p.line) (and_parts (is_of_pair p) _ is).1

bad_token_there : (p : LineAt) → is_due p BadToken ≡ true → cell_written (part 0 p.line) ≡ None
unfolding is_due
bad_token_there p is = none_from (cell_written (part 0 p.line)) (and_parts (is_of_pair p) _ is).1

bad_label_there : (p : LineAt) → is_due p BadLabel ≡ true → label_written (part 1 p.line) ≡ None
unfolding is_due
bad_label_there p is = none_from (label_written (part 1 p.line)) (and_parts (is_of_pair p) _ is).1

bad_count_there : (p : LineAt) → is_due p BadCount ≡ true
    → (is_nil p.above ≡ false) × (count_written (greatest_count (header_of p)) (part 2 p.line) ≡ None)
unfolding is_due
bad_count_there p is =
    let parts = and_parts (is_of_pair p) _ is in
    (inner_of_pair p parts.0, none_from (count_written (greatest_count (header_of p)) (part 2 p.line)) parts.1)

copies_there : (p : LineAt) → is_due p TooManyCopies ≡ true
    → (is_nil p.above ≡ false) × (count_limit p.limits < count_of_line (greatest_count (header_of p)) p.line)
unfolding is_due
copies_there p is =
    let parts = and_parts (is_of_pair p) _ is in
    (inner_of_pair p parts.0, ltb-true (count_limit p.limits) (count_of_line (greatest_count (header_of p)) p.line) parts.1)

pairs_there : (p : LineAt) → is_due p TooManyPairs ≡ true → pairs_limit p.limits ≤ length (pairs_above p)
unfolding is_due
pairs_there p is = leb-true (pairs_limit p.limits) (length (pairs_above p)) (and_parts (is_of_pair p) _ is).1

trailing_there : (p : LineAt) → is_due p TrailingBytes ≡ true → list_any is_end (pairs_above p) ≡ true
unfolding is_due
trailing_there p is = (and_parts (is_over p) _ is).0

unsorted_there : (p : LineAt) → is_due p Unsorted ≡ true
    → comes_before (option_and_then pair_written (last_of (pairs_above p))) (pair_written p.line) ≡ false
unfolding is_due
unsorted_there p is = not-true _ (and_parts (is_of_pair p) _ is).1

truncated_there : (p : LineAt) → is_due p Truncated ≡ true → p.ended ≡ false
unfolding is_due
truncated_there p is = not-true p.ended (and_parts (not (is_over p)) _ is).1

header_there : (p : LineAt) → is_due p BadHeader ≡ true → dump_version p.line ≡ None
unfolding is_due
header_there p is = none_from (dump_version p.line) (and_parts (is_first p) _ is).1

-- ---- the lines of a text

any_dropped : (test : List ℕ → Bool) (lines : List (List ℕ)) → list_any test (drop 1 lines) ≡ true → list_any test lines ≡ true
any_dropped test [] any = any
any_dropped test (line ∷ lines) any = or_right _ _ any

-- the last of the lines above one is the one before it
last_taken : (k : ℕ) (lines : List (List ℕ)) → k < length lines → last_of (take (suc k) lines) ≡ Some (slice_index_or lines k [])
last_taken k [] inside = absurd (omega arith)
last_taken zero (line ∷ lines) inside = refl
last_taken (suc k) (line ∷ []) inside = absurd (omega arith)
last_taken (suc k) (line ∷ (next ∷ lines)) inside = last_taken k (next ∷ lines) (omega arith)

pair_above : (k : ℕ) (lines : List (List ℕ)) (next : Option Pair) → k < length lines
    → comes_before (option_and_then pair_written (last_of (drop 1 (take k lines)))) next ≡ false
    → comes_before (pair_written (slice_index_or lines (k - 1) [])) next ≡ false
pair_above k [] next inside is = absurd (omega arith)
pair_above zero (line ∷ lines) next inside is = cc
pair_above (suc zero) (line ∷ lines) next inside is = cc
pair_above (suc (suc k)) (line ∷ lines) next inside is =
    let before : suc k ≡ suc (suc k) - 1 = omega arith in
    subst (λ (j : ℕ). comes_before (pair_written (slice_index_or (line ∷ lines) j [])) next ≡ false) before
    (subst (λ (o : Option (List ℕ)). comes_before (option_and_then pair_written o) next ≡ false) (last_taken k lines (omega arith)) is)

-- ---- the first line

-- the first fault of a text is that of its first line that has one
found_is : (limits : Limits) (text : List ℕ) → dump_fault limits text ≡ fault_below line_fault limits [] (lines_of text)
unfolding dump_fault
found_is limits text = refl

faults : AreFaults line_fault Truncated BadHeader dump_version
faults = record {
  differ = λ same. cc;
  no_feed = λ p first open_end. truncated_row p (ap (λ (above : List (List ℕ)). list_any is_end (drop 1 above)) first) open_end;
  no_header = λ limits line none. header_row limits line ∙ cond-true _ _ _ (ap is_none none);
  open_end = λ p is. truncated_there p (fault_is_due p Truncated is);
  unnamed = λ p is. header_there p (fault_is_due p BadHeader is);
}

-- a fault with the number of its line
abbrev at_line : ℕ → DumpFault → DumpError
at_line line fault = At line fault

-- an error is that, or want of memory
either : (error : DumpError) → ((named : ℕ × DumpFault) × (error ≡ At named.0 named.1)) ⊎ (error ≡ OutOfMemory)
either (At line fault) = inl ((line, fault), refl)
either OutOfMemory = inr refl

errors : AreErrors at_line OutOfMemory IsDumpError
errors = record { at_is = λ line fault found is. is; memory_is = λ found is. is; either = either }

-- ---- what an answer tells

-- if a reader answers so
pub record Answers {X : Type 0} (limits : Limits) (text : List ℕ) (r : Result X DumpError) : Type 0 where
  pub no_feed : (r ≡ Err (At 1 Truncated)) ↔ (length (lines_of text) ≡ 1)
  pub bad_header : (r ≡ Err (At 1 BadHeader)) ↔ ((1 < length (lines_of text)) × (dump_version (line_at 1 text) ≡ None))
  pub memory : r ≡ Err OutOfMemory → dump_version (line_at 1 text) ≢ None
  pub truncated : (line : ℕ) → r ≡ Err (At line Truncated) → line ≡ length (lines_of text)
  pub bad_end : (line : ℕ) → r ≡ Err (At line BadEnd) → is_end (line_at line text) ≡ true
  pub bad_line : (line : ℕ) → r ≡ Err (At line BadLine) → has_parts 3 (line_at line text) ≡ false
  pub bad_token : (line : ℕ) → r ≡ Err (At line BadToken) → cell_written (part 0 (line_at line text)) ≡ None
  pub bad_label : (line : ℕ) → r ≡ Err (At line BadLabel) → label_written (part 1 (line_at line text)) ≡ None
  pub bad_count : (line : ℕ) → r ≡ Err (At line BadCount)
      → count_written (greatest_count (line_at 1 text)) (part 2 (line_at line text)) ≡ None
  pub unsorted : (line : ℕ) → r ≡ Err (At line Unsorted)
      → comes_before (pair_written (line_at (line - 1) text)) (pair_written (line_at line text)) ≡ false
  pub too_many_copies : (line : ℕ) → r ≡ Err (At line TooManyCopies)
      → count_limit limits < count_of_line (greatest_count (line_at 1 text)) (line_at line text)
  pub too_many_pairs : (line : ℕ) → r ≡ Err (At line TooManyPairs) → pairs_limit limits + 2 ≤ line
  pub trailing : (line : ℕ) → r ≡ Err (At line TrailingBytes) → list_any is_end (lines_above line text) ≡ true

-- so much of the lines
abbrev Lines : {X : Type 0} → Limits → List ℕ → Result X DumpError → Type 0
Lines limits text r = TellsLines at_line OutOfMemory line_fault Truncated BadHeader dump_version limits text r

-- the line that an error names has its fault
there : {X : Type 0} (limits : Limits) (text : List ℕ) (r : Result X DumpError) (line : ℕ) (fault : DumpFault) → Lines limits text r
    → r ≡ Err (At line fault) → is_due (place_at limits line text) fault ≡ true
there limits text r line fault lines is = fault_is_due (place_at limits line text) fault (lines.of_line line fault is).has

many_above : (limits : Limits) (text : List ℕ) (line : ℕ) → line - 1 < length (lines_of text)
    → pairs_limit limits ≤ length (drop 1 (lines_above line text)) → pairs_limit limits + 2 ≤ line
many_above limits text line inside many =
    let some : 1 ≤ pairs_limit limits = limits.in_range.0 in
    omega (arith, some, many, length-drop 1 (lines_above line text), length-take-le (line - 1) (lines_of text) (omega (arith, inside)))

pub answers : {X : Type 0} (limits : Limits) (text : List ℕ) (r : Result X DumpError) → OnOk r (dump_fault limits text ≡ None)
    → IfErr r (λ error. IsDumpError error (dump_fault limits text)) → Answers limits text r
answers limits text r accepted refused =
    let lines = lines_of text in
    let at = λ (line : ℕ). place_at limits line text in
    let told : Lines limits text r =
    tells_lines errors faults limits text (dump_fault limits text) r (found_is limits text) accepted refused in
    record {
      no_feed = told.one_line;
      bad_header = told.other_header;
      memory = told.wants;
      truncated = told.last;
      bad_end = λ line is. bad_end_there (at line) (there limits text r line BadEnd told is);
      bad_line = λ line is. bad_line_there (at line) (there limits text r line BadLine told is);
      bad_token = λ line is. bad_token_there (at line) (there limits text r line BadToken told is);
      bad_label = λ line is. bad_label_there (at line) (there limits text r line BadLabel told is);
      bad_count = λ line is.
          let parts = bad_count_there (at line) (there limits text r line BadCount told is) in
          subst (λ (header : List ℕ). count_written (greatest_count header) (part 2 (line_at line text)) ≡ None)
          (same_header (line - 1) lines parts.0) parts.1;
      unsorted = λ line is.
          pair_above (line - 1) lines (pair_written (line_at line text)) (told.of_line line Unsorted is).inside
          (unsorted_there (at line) (there limits text r line Unsorted told is));
      too_many_copies = λ line is.
          let parts = copies_there (at line) (there limits text r line TooManyCopies told is) in
          subst (λ (header : List ℕ). count_limit limits < count_of_line (greatest_count header) (line_at line text))
          (same_header (line - 1) lines parts.0) parts.1;
      too_many_pairs = λ line is.
          many_above limits text line (told.of_line line TooManyPairs is).inside
          (pairs_there (at line) (there limits text r line TooManyPairs told is));
      trailing = λ line is.
          any_dropped is_end (lines_above line text) (trailing_there (at line) (there limits text r line TrailingBytes told is));
    }

-- if it answers an error
pub answers_error : {X : Type 0} (limits : Limits) (text : List ℕ) (r : Result X DumpError) (error : DumpError) → r ≡ Err error
    → IsDumpError error (dump_fault limits text) → Answers limits text r
answers_error {X = X} limits text r error is refused =
    let Told : Result X DumpError → Type 0 = λ x. Answers limits text x in
    subst Told (sym is) (answers limits text (Err error) tt refused)

-- and if it answers what it read
pub answers_read : {X : Type 0} (limits : Limits) (text : List ℕ) (x : X) → dump_fault limits text ≡ None → Answers limits text (Ok x)
answers_read limits text x accepted = answers limits text (Ok x) accepted tt
