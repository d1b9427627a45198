-- Why texts are refused, and the line that says so.
use Rattle.std.specs.Prelude.{◌≡◌, ℕ, codes, decimal, List, [], ◌∷◌, Result, Err}
use Rattle.std.specs.List.{concat}
use Rattle.s2ix_text.specs.declared.dump_error.DumpError.{DumpError}
use Rattle.s2ix_text.specs.declared.dump_error.DumpError.TheVariants as dump
use Rattle.s2ix_text.specs.declared.journal_error.JournalError.{JournalError}
use Rattle.s2ix_text.specs.declared.journal_error.JournalError.TheVariants as journal
use Rattle.s2ix_bag.specs.declared.replay_error.ReplayError.{ReplayError}
use Rattle.s2ix_bag.specs.declared.replay_error.ReplayError.TheVariants as replay
use Rattle.s2ix_cli_files.specs.declared.refusal.Refusal.{Refusal}
use Rattle.s2ix_cli_files.specs.declared.refusal.Refusal.TheVariants.{Dump, Second, Journal, Mismatch, TooManyCopies, TooManyPairs}
use Rattle.s2ix_cli_files.specs.declared.refusal.TextsError.{TextsError}
use Rattle.s2ix_cli_files.specs.declared.refusal.TextsError.TheVariants.{Refused, OutOfMemory}
use Rattle.s2ix_cli_files.specs.Names.{dump_fault_name, journal_fault_name}

-- a name and one number after what stands before them, on a line of their own
abbrev pub numbered_line : List ℕ → List ℕ → ℕ → List ℕ
numbered_line before name number = concat (before ∷ name ∷ codes " " ∷ decimal number ∷ codes "\n" ∷ [])

-- `no` with a name and two numbers, on a line of their own
abbrev pub line_numbered_twice : List ℕ → ℕ → ℕ → List ℕ
line_numbered_twice name first second =
    concat (codes "no " ∷ name ∷ codes " " ∷ decimal first ∷ codes " " ∷ decimal second ∷ codes "\n" ∷ [])

-- the line of a refusal: its name and its numbers
abbrev pub refusal_line : Refusal → List ℕ
refusal_line (Dump line fault) = numbered_line (codes "no ") (dump_fault_name fault) line
refusal_line (Second line fault) = numbered_line (codes "no second ") (dump_fault_name fault) line
refusal_line (Journal line fault) = numbered_line (codes "no journal ") (journal_fault_name fault) line
refusal_line (Mismatch change entry) = line_numbered_twice (codes "Mismatch") change entry
refusal_line (TooManyCopies change) = numbered_line (codes "no ") (codes "TooManyCopies") change
refusal_line (TooManyPairs change) = numbered_line (codes "no ") (codes "TooManyPairs") change

-- the error of a dump, as one of the texts
abbrev pub error_of_dump : DumpError → TextsError
error_of_dump (dump.At line fault) = Refused (Dump line fault)
error_of_dump dump.OutOfMemory = OutOfMemory

-- that of a journal
abbrev pub error_of_journal : JournalError → TextsError
error_of_journal (journal.At line fault) = Refused (Journal line fault)
error_of_journal journal.OutOfMemory = OutOfMemory

-- that of its changes
abbrev pub error_of_replay : ReplayError → TextsError
error_of_replay (replay.Mismatch change entry) = Refused (Mismatch change entry)
error_of_replay (replay.TooManyCopies change) = Refused (TooManyCopies change)
error_of_replay (replay.TooManyPairs change) = Refused (TooManyPairs change)
error_of_replay replay.OutOfMemory = OutOfMemory

-- an error tells the refusal that the texts come to; want of memory tells nothing of it
abbrev pub IsRefusedBy : {A : Type 0} → (Result A Refusal → Type 0) → TextsError → Type 0
IsRefusedBy ComesTo (Refused refusal) = ComesTo (Err refusal)
IsRefusedBy ComesTo OutOfMemory = Unit {0}

-- an error is want of memory only if this holds
abbrev pub IsWantOf : Type 0 → TextsError → Type 0
IsWantOf wants error = error ≡ OutOfMemory → wants
