-- From what texts come to, to its answer.
use Rattle.std.proofs.Common.{◌≡◌, ℕ, ◌<◌, Bool, false, List, length, Result, Ok, Err, refl, ap, sym, subst, arith}
use Rattle.std.specs.Prelude.{IfErr, IfOk}
use Rattle.s2ix_bag_pairs.specs.Collection.{LimitedCollection}
use Rattle.s2ix_text_write.specs.Dump.{dump_in}
use Rattle.s2ix_text_write.specs.Journal.{journal_in}
use Rattle.s2ix_bag_pairs.specs.declared.pair.Entry.{Entry}
use Rattle.s2ix_text_parts.specs.declared.run_fault.RunFault.{RunFault}
use Rattle.s2ix_text_parts.specs.declared.sink.Sink.{Ghosts as Sink}
use Rattle.s2ix_text_parts.specs.DeviceFaults.{IsWantOnlyIf}
use Rattle.s2ix_cli_files.specs.declared.refusal.Refusal.{Refusal}
use Rattle.s2ix_cli_files.specs.declared.refusal.TextsError.{TextsError}
use Rattle.s2ix_cli_files.specs.declared.refusal.TextsError.TheVariants.{Refused, OutOfMemory}
use Rattle.s2ix_cli_files.specs.Answers.{Answer, IsAnswerTo, IsOutcomeAnswer, IsRefusalAnswer, Prints, answer_of, counts_line, dump_of, journal_of}
use Rattle.s2ix_cli_files.specs.Refusals.{IsRefusedBy, IsWantOf}

-- the answer of a value that the texts come to
pub value_answer : {A : Type 0} (printed : A → List ℕ) (ComesTo : Result A Refusal → Type 0) (a : A)
    → ComesTo (Ok a) → IsAnswerTo printed ComesTo (answer_of printed (Ok a))
value_answer printed ComesTo a comes = (Ok a, comes, refl)

-- the answer that an error tells is the one to the texts
pub refusal_answer : {A : Type 0} (printed : A → List ℕ) (ComesTo : Result A Refusal → Type 0) (error : TextsError)
    → IsRefusedBy ComesTo error → (answer : Answer) → IsRefusalAnswer error answer → IsAnswerTo printed ComesTo answer
refusal_answer printed ComesTo (Refused refusal) comes answer is = (Err refusal, comes, is)
refusal_answer printed ComesTo OutOfMemory comes answer is = absurd is

-- what accepts nothing tells so
pub printed_refused : {K : Type 0} (sink : Sink K) (error : TextsError) (old new : K) (accepted : Bool)
    → Prints sink (IsRefusalAnswer error) old new (Ok accepted) → Prints sink (IsRefusalAnswer error) old new (Ok false)
printed_refused sink (Refused refusal) old new accepted answered = (answered.0, answered.1, answered.2, ap (λ (a : Answer). a.accepted) (sym answered.1))
printed_refused sink OutOfMemory old new accepted answered = absurd answered.1

-- memory is wanted only if this holds, and so only if that holds
pub want_as : {A : Type 0} (result : Result A RunFault) (Wants Others : Type 0) → (Wants → Others) → IfErr result (IsWantOnlyIf Wants)
    → IfErr result (IsWantOnlyIf Others)
want_as (Ok x) Wants Others as_others wants = tt
want_as (Err fault) Wants Others as_others wants = λ is. as_others (wants is)

-- the line of counts is not empty
pub some_counts : (bag : LimitedCollection) → 0 < length (counts_line bag)
some_counts bag = omega arith

-- ---- a dump or a journal

-- what is printed of a value is the answer of an outcome that is that value
pub printed_so : {A : Type 0} (printed : A → List ℕ) (outcome : Result A TextsError) (a : A) → outcome ≡ Ok a
    → IsOutcomeAnswer printed outcome (answer_of printed (Ok a))
printed_so {A} printed outcome a is =
    let Printed : Result A TextsError → Type 0 = λ o. IsOutcomeAnswer printed o (answer_of printed (Ok a)) in subst Printed (sym is) refl

-- a dump is not empty
pub some_dump : (bag : LimitedCollection) → 0 < length (dump_of bag)
unfolding dump_in
some_dump bag = omega arith

-- nor is the journal of a change
pub some_journal : (change : List Entry) → 0 < length (journal_of change)
unfolding journal_in
some_journal change = omega arith

-- the answer that the outcome of the texts tells is the one to them
pub outcome_answer : {A : Type 0} (printed : A → List ℕ) (ComesTo : Result A Refusal → Type 0) (outcome : Result A TextsError)
    → IfOk outcome (λ a. ComesTo (Ok a)) → IfErr outcome (IsRefusedBy ComesTo)
    → (answer : Answer) → IsOutcomeAnswer printed outcome answer → IsAnswerTo printed ComesTo answer
outcome_answer printed ComesTo (Ok a) comes refused answer is = (Ok a, comes, is)
outcome_answer printed ComesTo (Err error) comes refused answer is = refusal_answer printed ComesTo error refused answer is

-- want of memory is an error of the outcome
pub wanted_so : {A : Type 0} (outcome : Result A TextsError) (Wants : Type 0) → IfErr outcome (IsWantOf Wants)
    → outcome ≡ Err OutOfMemory → Wants
wanted_so (Ok a) Wants wants is = cc
wanted_so (Err error) Wants wants is = wants (cc)
