-- What a run comes to.
use Rattle.std.specs.Prelude.{◌≡◌, ℕ, ◌<◌, ◌≤◌, ◌⊎◌, min, Bool, true, Option, Result, Ok, Err, List, [], ◌∷◌, ◌++◌, length}
use Rattle.std.specs.Io.KnownBytes.{Appends, Consumes, IsAtEnd}
use Rattle.s2ix_edit_plan.specs.State.{State}
use Rattle.s2ix_text_parts.specs.Pieces.{ReadsOn, ReadsToEnd}
use Rattle.s2ix_text_parts.specs.Puts.{AppendsFront}
use Rattle.s2ix_text_parts.specs.declared.run_fault.RunFault.{RunFault}
use Rattle.s2ix_text_parts.specs.declared.run_fault.RunFault.TheVariants.{Read, Write, OutOfMemory, ReaderTooLong}
use Rattle.s2ix_cli_script.specs.Lines.{script_lines}
use Rattle.s2ix_cli_run.specs.Step.{step_of}
use Rattle.s2ix_cli_run.specs.declared.run_end.RunEnd.{RunEnd}
use Rattle.s2ix_cli_run.specs.Coming.{ended_lines}
use Rattle.s2ix_cli_run.specs.Script.{MOST, Run, after, run_lines, counted_in, output_of, refused_in}
use Rattle.s2ix_cli_run.specs.Wants.{WantsAmong}

-- the end of the input was read, by at most `turns` pieces
abbrev pub EndWasRead : {S : Type 0} → (S → Option (List ℕ)) → (S → ℕ → S → Type 0) → ℕ → S → S → Type 0
EndWasRead left gives turns old new = IsAtEnd (left new) × ReadsToEnd gives turns old new

-- by fewer than `turns` pieces `front` was read, and by one more `piece`
pub record BringsLast {S : Type 0} (left : S → Option (List ℕ)) (gives : S → ℕ → S → Type 0) (turns : ℕ) (old new : S)
    (front piece : List ℕ) : Type 0 where
  pub mid : S
  pub pieces : ℕ
  pub within : pieces < turns
  pub reads_on : ReadsOn gives pieces old mid
  pub before : Consumes (left old) (left mid) front
  pub count : ℕ
  pub gives_last : gives mid count new
  pub last : Consumes (left mid) (left new) piece

-- how the source of a run ended: `IsRead` says that its end was read, and `IsLast front piece` that `piece` was the last one that was read,
-- after `front`
pub record SourceEnd : Type 1 where
  pub IsRead : Type 0
  pub IsLast : List ℕ → List ℕ → Type 0

-- how a source ended that led from `old` to `new`, if at most `turns` pieces may be read
abbrev pub source_end : {S : Type 0} → (S → Option (List ℕ)) → (S → ℕ → S → Type 0) → ℕ → S → S → SourceEnd
source_end left gives turns old new = record { IsRead = EndWasRead left gives turns old new; IsLast = BringsLast left gives turns old new }

-- the lines of an input that a run can carry out: those that are ended, and where the end of the input was read its last line too
abbrev pub AreRead : SourceEnd → List ℕ → List (List ℕ) → Type 0
AreRead end input lines = (lines ≡ ended_lines input) ⊎ (end.IsRead × (lines ≡ script_lines input))

-- the last line of a script, where no line feed ends it: if it has a byte
abbrev pub line_left : List ℕ → List (List ℕ)
line_left [] = []
line_left (byte ∷ rest) = (byte ∷ rest) ∷ []

-- no line was refused that would have ended the run
abbrev pub KeepsOn : Bool → State → List (List ℕ) → Type 0
KeepsOn stop old lines = stop ≡ true → refused_in old lines ≡ 0

-- the store stands after lines, and their whole output went out
pub record IsStateAfter (lines : List (List ℕ)) (run : Run) : Type 0 where
  pub store : run.store_after ≡ after run.store_before lines
  pub output : Appends run.taken_before run.taken_after (output_of run.store_before lines)

-- the lines of a script that a run carries out
abbrev pub lines_run : Run → List (List ℕ) → List (List ℕ)
lines_run run lines = run_lines run.stop run.store_before lines

-- a run carried the lines of `input` out and wrote exactly their output
pub record Finishes (input : List ℕ) (run : Run) (so_far : RunEnd) : Type 0 where
  pub stands : IsStateAfter (lines_run run (script_lines input)) run
  pub lines : so_far.lines ≡ min (counted_in run.store_before (lines_run run (script_lines input))) MOST
  pub refused : so_far.refused ≡ min (refused_in run.store_before (lines_run run (script_lines input))) MOST

-- with `stop` a run was ended by a refused line, whose line feed the last piece brought
pub record IsStopped (end : SourceEnd) (input : List ℕ) (run : Run) : Type 0 where
  pub stops : run.stop ≡ true
  pub front : List ℕ
  pub piece : List ℕ
  pub are : input ≡ front ++ piece
  pub is_last : end.IsLast front piece
  pub keeps_on : refused_in run.store_before (ended_lines front) ≡ 0
  pub refused : 0 < refused_in run.store_before (lines_run run (script_lines input))
  pub ended : length (lines_run run (script_lines input)) ≤ length (ended_lines input)

-- no more could be read: the store stands after all lines whose ends were read, and their whole output went out
pub record StopsReading (input : List ℕ) (run : Run) : Type 0 where
  pub keeps_on : KeepsOn run.stop run.store_before (ended_lines input)
  pub stands : IsStateAfter (ended_lines input) run

-- the sink failed in the answer of a line: the store stands after that line, and what went out is the output of those before it and a
-- front of its answer
pub record StopsWriting (lines : List (List ℕ)) (run : Run) : Type 0 where
  pub done : List (List ℕ)
  pub line : List ℕ
  pub rest : List (List ℕ)
  pub are_run : lines_run run lines ≡ done ++ line ∷ rest
  pub store : run.store_after ≡ (step_of (after run.store_before done) line).after
  pub mid : Option (List ℕ)
  pub output : Appends run.taken_before mid (output_of run.store_before done)
  pub cut : AppendsFront mid run.taken_after (step_of (after run.store_before done) line).answer

-- what a run comes to by its result, over how its source ended, the input that it read, and its store and sink
unfoldable pub Ran : Result RunEnd RunFault → SourceEnd → List ℕ → Run → Type 0
Ran (Ok so_far) end input run = (end.IsRead ⊎ IsStopped end input run) × Finishes input run so_far
Ran (Err Read) end input run = StopsReading input run
Ran (Err ReaderTooLong) end input run = StopsReading input run
Ran (Err Write) end input run =
    (lines : List (List ℕ)) × AreRead end input lines × (StopsWriting lines run ⊎ IsStateAfter (lines_run run lines) run)
Ran (Err OutOfMemory) end input run = (lines : List (List ℕ)) × AreRead end input lines × WantsAmong lines run

-- a flush was the last thing that the sink was asked for
abbrev pub IsFlushed : {K : Type 0} → (K → K → Type 0) → K → Type 0
IsFlushed {K} flushes new = (written : K) × flushes written new

-- what was written is flushed at the end of a run, and before each piece that is asked for
abbrev pub Flushes : {K : Type 0} → (K → K → Type 0) → Result RunEnd RunFault → K → K → Type 0
Flushes flushes (Ok so_far) old new = IsFlushed flushes new
Flushes flushes (Err Read) old new = (new ≡ old) ⊎ IsFlushed flushes new
Flushes flushes (Err ReaderTooLong) old new = (new ≡ old) ⊎ IsFlushed flushes new
Flushes flushes (Err Write) old new = Unit {0}
Flushes flushes (Err OutOfMemory) old new = Unit {0}
