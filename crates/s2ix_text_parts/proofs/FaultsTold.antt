-- What a reader's answer tells of its text: of the first line, of the last one, and of the line whose fault it names.
use Rattle.std.proofs.Common.{◌≡◌, ◌≢◌, ◌↔◌, ℕ, ◌<◌, ◌≤◌, ◌⊎◌, Bool, true, false, Option, Some, None, Result, Ok, Err, OnOk, IfErr, List, [], ◌∷◌, length, drop, refl, sym, ap, ◌∙◌, subst, ⊎_elim, arith}
use Rattle.std.specs.Prelude.{slice_index_or}
use Rattle.std.proofs.lemmas.Bool.{cases_lt, not-false}
use Rattle.s2ix_bag_pairs.specs.declared.limits.Limits.{Limits}
use Rattle.s2ix_text_parts.specs.LineFaults.{IsFromLine, LineAt, fault_below}
use Rattle.s2ix_text_parts.specs.Lines.{is_nil, lines_of}
use Rattle.s2ix_text_parts.specs.NumberedLines.{line_at, place_at}
use Rattle.s2ix_text_parts.proofs.FirstFault.{found_here, place}
use Rattle.s2ix_text_parts.proofs.Found.{IsOfLine, found_of_line}
use Rattle.s2ix_text_parts.proofs.Pieces.{lines_some}
use Rattle.s2ix_text_parts.proofs.NumberedLines.{last_line, more_lines, some_lines}

-- the errors of a reader: a fault with the number of its line, or want of memory. `IsError` says which error it may answer over the first
-- fault of its text
pub record AreErrors {F E : Type 0} (at : ℕ → F → E) (memory : E) (IsError : E → Option (ℕ × F) → Type 0) : Type 0 where
  pub at_is : (line : ℕ) (fault : F) (found : Option (ℕ × F)) → IsError (at line fault) found → found ≡ Some (line, fault)
  pub memory_is : (found : Option (ℕ × F)) → IsError memory found → IsFromLine 2 found
  pub either : (error : E) → ((named : ℕ × F) × (error ≡ at named.0 named.1)) ⊎ (error ≡ memory)

-- two faults of a line, as `fault_of` finds them: it lacks its line feed, or it is the first line and names no version
pub record AreFaults {F V : Type 0} (fault_of : LineAt → Option F) (truncated bad_header : F) (version : List ℕ → Option V) : Type 0 where
  pub differ : truncated ≢ bad_header
  pub no_feed : (p : LineAt) → p.above ≡ [] → p.ended ≡ false → fault_of p ≡ Some truncated
  pub no_header : (limits : Limits) (line : List ℕ) → version line ≡ None
      → fault_of (record { limits = limits; above = []; line = line; ended = true }) ≡ Some bad_header
  pub open_end : (p : LineAt) → fault_of p ≡ Some truncated → p.ended ≡ false
  pub unnamed : (p : LineAt) → fault_of p ≡ Some bad_header → version p.line ≡ None

-- what the answer tells of the lines
pub record TellsLines {X F E V : Type 0} (at : ℕ → F → E) (memory : E) (fault_of : LineAt → Option F) (truncated bad_header : F)
    (version : List ℕ → Option V) (limits : Limits) (text : List ℕ) (r : Result X E) : Type 0 where
  pub one_line : (r ≡ Err (at 1 truncated)) ↔ (length (lines_of text) ≡ 1)
  pub other_header : (r ≡ Err (at 1 bad_header)) ↔ ((1 < length (lines_of text)) × (version (line_at 1 text) ≡ None))
  pub wants : r ≡ Err memory → version (line_at 1 text) ≢ None
  pub last : (line : ℕ) → r ≡ Err (at line truncated) → line ≡ length (lines_of text)
  pub of_line : (line : ℕ) (fault : F) → r ≡ Err (at line fault) → IsOfLine fault_of limits text line fault

-- ---- the first fault, by the error

module _ {F E : Type 0} {at : ℕ → F → E} {memory : E} {IsError : E → Option (ℕ × F) → Type 0} (errors : AreErrors at memory IsError)
    (found : Option (ℕ × F)) where
  -- an error names the first fault
  named : {X : Type 0} (r : Result X E) (line : ℕ) (fault : F) → IfErr r (λ error. IsError error found) → r ≡ Err (at line fault)
      → found ≡ Some (line, fault)
  named (Ok x) line fault refused is = cc
  named (Err error) line fault refused is =
      let same : error ≡ at line fault = cc in
      errors.at_is line fault found (subst (λ (e : E). IsError e found) same refused)

  -- memory isn't wanted if the first line has a fault
  not_memory : (fault : F) → IsError memory found → found ≡ Some (1, fault) → ⊥
  not_memory fault refused is =
      let late : 2 ≤ 1 = subst (λ (o : Option (ℕ × F)). IsFromLine 2 o) is (errors.memory_is found refused) in
      omega (arith, late)

  never_wanted : {X : Type 0} (r : Result X E) (fault : F) → IfErr r (λ error. IsError error found) → r ≡ Err memory
      → found ≡ Some (1, fault) → ⊥
  never_wanted (Ok x) fault refused wants is = cc
  never_wanted (Err error) fault refused wants is =
      let same : error ≡ memory = cc in
      not_memory fault (subst (λ (e : E). IsError e found) same refused) is

  -- a fault of the first line is always answered
  error_first : (error : E) (fault : F) → IsError error found → found ≡ Some (1, fault) → error ≡ at 1 fault
  error_first error fault refused is =
      ⊎_elim
      (λ it.
      let own = errors.at_is it.0.0 it.0.1 found (subst (λ (e : E). IsError e found) it.1 refused) in
      let same : ◌≡◌ {A = Option (ℕ × F)} (Some (it.0.0, it.0.1)) (Some (1, fault)) = sym own ∙ is in
      let pair : (it.0.0, it.0.1) ≡ (1, fault) = cc in
      it.1 ∙ ap (λ (x : ℕ × F). at x.0 x.1) pair)
      (λ wants. absurd (not_memory fault (subst (λ (e : E). IsError e found) wants refused) is))
      (errors.either error)

  told_first : {X : Type 0} (r : Result X E) (fault : F) → OnOk r (found ≡ None) → IfErr r (λ error. IsError error found)
      → found ≡ Some (1, fault) → r ≡ Err (at 1 fault)
  told_first (Ok x) fault accepted refused is = let clash : ◌≡◌ {A = Option (ℕ × F)} None (Some (1, fault)) = sym accepted ∙ is in cc
  told_first {X = X} (Err error) fault accepted refused is =
      ap (λ (e : E). let r : Result X E = Err e in r) (error_first error fault refused is)

-- ---- the first line

module _ {F V : Type 0} {fault_of : LineAt → Option F} {truncated bad_header : F} {version : List ℕ → Option V}
    (faults : AreFaults fault_of truncated bad_header version) where
  -- a text without a line feed
  found_truncated : (limits : Limits) (lines : List (List ℕ)) → length lines ≡ 1
      → fault_below fault_of limits [] lines ≡ Some (1, truncated)
  found_truncated limits [] one = absurd (omega arith)
  found_truncated limits (line ∷ []) one =
      found_here fault_of limits [] line [] truncated (faults.no_feed (place limits [] line []) refl refl)
  found_truncated limits (line ∷ (next ∷ lines)) one = absurd (omega arith)

  -- one whose first line is no header
  found_bad_header : (limits : Limits) (lines : List (List ℕ)) → 1 < length lines → version (slice_index_or lines 0 []) ≡ None
      → fault_below fault_of limits [] lines ≡ Some (1, bad_header)
  found_bad_header limits [] more none = absurd (omega arith)
  found_bad_header limits (line ∷ []) more none = absurd (omega arith)
  found_bad_header limits (line ∷ (next ∷ lines)) more none =
      found_here fault_of limits [] line (next ∷ lines) bad_header (faults.no_header limits line none)

  -- a header is bad only if its line feed has come
  ended_first : (p : LineAt) (ended : Bool) → p.ended ≡ ended → p.above ≡ [] → fault_of p ≡ Some bad_header → ended ≡ true
  ended_first p true own first is = refl
  ended_first p false own first is =
      let same : Some truncated ≡ Some bad_header = sym (faults.no_feed p first own) ∙ is in
      let clash : truncated ≡ bad_header = cc in
      absurd (faults.differ clash)

  first_of : (limits : Limits) (text : List ℕ) → IsOfLine fault_of limits text 1 bad_header
      → (1 < length (lines_of text)) × (version (line_at 1 text) ≡ None)
  first_of limits text at =
      let p = place_at limits 1 text in
      (more_lines (lines_of text) (ended_first p p.ended refl refl at.has), faults.unnamed p at.has)

  last_of_text : (limits : Limits) (text : List ℕ) (line : ℕ) → IsOfLine fault_of limits text line truncated
      → line ≡ length (lines_of text)
  last_of_text limits text line at =
      last_line (lines_of text) line at.from at.inside
      (not-false (is_nil (drop line (lines_of text))) (faults.open_end (place_at limits line text) at.has))

-- ---- all of it

module _ {X F E V : Type 0} {at : ℕ → F → E} {memory : E} {IsError : E → Option (ℕ × F) → Type 0} {fault_of : LineAt → Option F}
    {truncated bad_header : F} {version : List ℕ → Option V} (errors : AreErrors at memory IsError)
    (faults : AreFaults fault_of truncated bad_header version) (limits : Limits) (text : List ℕ) (found : Option (ℕ × F)) (r : Result X E)
    (found_is : found ≡ fault_below fault_of limits [] (lines_of text)) where
  line_of : (line : ℕ) (fault : F) → IfErr r (λ error. IsError error found) → r ≡ Err (at line fault)
      → IsOfLine fault_of limits text line fault
  line_of line fault refused is = found_of_line fault_of limits text line fault (sym found_is ∙ named errors found r line fault refused is)

  one_found : length (lines_of text) ≡ 1 → found ≡ Some (1, truncated)
  one_found one = found_is ∙ found_truncated faults limits (lines_of text) one

  other_found : 1 < length (lines_of text) → version (line_at 1 text) ≡ None → found ≡ Some (1, bad_header)
  other_found more none = found_is ∙ found_bad_header faults limits (lines_of text) more none

  pub tells_lines : OnOk r (found ≡ None) → IfErr r (λ error. IsError error found)
      → TellsLines at memory fault_of truncated bad_header version limits text r
  tells_lines accepted refused =
      let some = some_lines (lines_of text) (lines_some text) in
      record {
        one_line = (
          λ is. sym (last_of_text faults limits text 1 (line_of 1 truncated refused is)),
          λ one. told_first errors found r truncated accepted refused (one_found one),
        );
        other_header = (
          λ is. first_of faults limits text (line_of 1 bad_header refused is),
          λ other. told_first errors found r bad_header accepted refused (other_found other.0 other.1),
        );
        wants = λ is none.
            ⊎_elim
            (λ more. never_wanted errors found r bad_header refused is (other_found more none))
            (λ within_limit. never_wanted errors found r truncated refused is (one_found (omega (arith, within_limit, some))))
            (cases_lt 1 (length (lines_of text)));
        last = λ line is. last_of_text faults limits text line (line_of line truncated refused is);
        of_line = λ line fault is. line_of line fault refused is;
      }
