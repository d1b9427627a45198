-- What the definitions say of one another: each of these is proved, and told in a sentence, by a clause of a function of `laws`.
use Rattle.std.specs.Prelude.{◌≡◌, ℕ, true, List, [], ◌∷◌, All}
use Rattle.s2ix_edit_plan.specs.State.{State}
use Rattle.s2ix_edit_store.specs.Store.{IsStore}
use Rattle.s2ix_cli_files.specs.Answers.{ReplayAnswers, RewindAnswers}
use Rattle.s2ix_cli_files.specs.Widest.{widest}
use Rattle.s2ix_cli_script.specs.declared.instruction.Instruction.TheVariants as asks
use Rattle.s2ix_cli_run.specs.Asking.{AsksFor}
use Rattle.s2ix_cli_run.specs.Script.{after, output_of}

-- no line asks to forget what was done
abbrev pub NoneForgets : List (List ℕ) → Type 0
NoneForgets lines = All (λ line. ¬ AsksFor line asks.Forget) lines

abbrev pub JournalLeadsOn : Type 0
JournalLeadsOn =
    (s : State) (lines : List (List ℕ)) (dump journal : List ℕ) → IsStore s → s.done ≡ [] → NoneForgets lines
    → AsksFor dump asks.Dump → AsksFor journal asks.Journal
    → let end = after s lines in
    ReplayAnswers widest (output_of s (dump ∷ [])) (output_of end (journal ∷ []))
    (record { text = output_of end (dump ∷ []); accepted = true })

abbrev pub JournalLeadsBack : Type 0
JournalLeadsBack =
    (s : State) (lines : List (List ℕ)) (dump journal : List ℕ) → IsStore s → s.done ≡ [] → NoneForgets lines
    → AsksFor dump asks.Dump → AsksFor journal asks.Journal
    → let end = after s lines in
    RewindAnswers widest (output_of end (dump ∷ [])) (output_of end (journal ∷ []))
    (record { text = output_of s (dump ∷ []); accepted = true })
