-- What is held of a line, and what the line comes to.
use Rattle.std.proofs.Common.{◌≡◌, ℕ, nat_lt, if◌then◌else◌, Bool, true, false, Option, Some, None, Err, List, ◌++◌, length, refl, sym, ap, subst, length-append, arith}
use Rattle.std.proofs.lemmas.Bool.{lt-ltb, ltb-true}
use Rattle.std.proofs.lemmas.Option.{none-some}
use Rattle.std.specs.Io.KnownBytes.{Appends}
use Rattle.s2ix_edit_plan.specs.State.{State}
use Rattle.s2ix_cli_words.specs.Fields.{fields_of}
use Rattle.s2ix_cli_script.specs.Meaning.{LONGEST, meaning_of, meaning_of_fields}
use Rattle.s2ix_cli_script.specs.FaultNames.{fault_name}
use Rattle.s2ix_cli_script.specs.declared.line_fault.LineFault.TheVariants.{LineTooLong}
use Rattle.s2ix_text_parts.specs.Puts.{AppendsFront}
use Rattle.s2ix_text_parts.specs.declared.run_fault.RunFault.TheVariants.{Write}
use Rattle.s2ix_cli_run.specs.Line.{StopsAt, Takes}
use Rattle.s2ix_cli_run.specs.Step.{Step, step_of, step_at, no_step}
use Rattle.s2ix_cli_run.specs.declared.outcome.LineOutcome.TheVariants.{Refused}
use Rattle.s2ix_cli_answers.specs.Answers.{no_line}
use Rattle.s2ix_cli_run.specs.Coming.{kept_of, held_more}

none_held : (is_too_long : Bool) (line : List ℕ) → None ≡ (if is_too_long then None else Some line) → is_too_long ≡ true
none_held true line e = refl
none_held false line e = absurd (none-some line e)

-- a line that is too long
meaning_of-too_long : (line : List ℕ) → nat_lt LONGEST (length line) ≡ true → meaning_of line ≡ Err LineTooLong
unfolding meaning_of
meaning_of-too_long line e = ap (λ b. if b then Err LineTooLong else meaning_of_fields (fields_of line)) e

-- a line of which nothing is held is too long
pub kept_of-none : (s : State) (line : List ℕ) → None ≡ kept_of line → step_of s line ≡ no_step s (fault_name LineTooLong)
unfolding step_of
kept_of-none s line e = ap (step_at s) (meaning_of-too_long line (none_held (nat_lt LONGEST (length line)) line e))

-- what is held once more bytes have come
held_more_at : (is_too_long : Bool) (front bytes : List ℕ) → nat_lt LONGEST (length front) ≡ is_too_long
    → held_more (if is_too_long then None else Some front) bytes ≡ kept_of (front ++ bytes)
held_more_at true front bytes e =
    rw (lt-ltb LONGEST (length (front ++ bytes)) (omega (arith, ltb-true LONGEST (length front) e, length-append front bytes))) refl
held_more_at false front bytes e = refl

pub held_more-of : (front bytes : List ℕ) → held_more (kept_of front) bytes ≡ kept_of (front ++ bytes)
held_more-of front bytes = held_more_at (nat_lt LONGEST (length front)) front bytes refl

-- ---- a line that is refused

pub Takes-no : (step : Step) (s : State) (name : List ℕ) (before past : Option (List ℕ)) → step ≡ no_step s name
    → Appends before past (no_line name) → Takes step s before past Refused
Takes-no step s name before past is out =
    record {
      store = sym (ap (λ x. x.after) is);
      output = subst (Appends before past) (sym (ap (λ x. x.answer) is)) out;
      counted = sym (ap (λ x. x.is_counted) is);
      refused = sym (ap (λ x. x.is_refused) is);
    }

pub StopsAt-no : (step : Step) (s : State) (name : List ℕ) (before past : Option (List ℕ)) → step ≡ no_step s name
    → AppendsFront before past (no_line name) → StopsAt step s s before past Write
StopsAt-no step s name before past is out =
    (sym (ap (λ x. x.after) is), subst (AppendsFront before past) (sym (ap (λ x. x.answer) is)) out)
