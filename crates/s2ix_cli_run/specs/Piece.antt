-- What carrying out the lines that end in a piece comes to.
use Rattle.std.specs.Prelude.{◌≡◌, ◌≢◌, ℕ, ◌+◌, min, true, Option, Result, Ok, Err, List, [], ◌∷◌, ◌++◌}
use Rattle.std.specs.List.{All}
use Rattle.std.specs.Io.KnownBytes.{Appends}
use Rattle.s2ix_edit_plan.specs.State.{State}
use Rattle.s2ix_text_parts.specs.Puts.{AppendsFront}
use Rattle.s2ix_text_parts.specs.declared.run_fault.RunFault.{RunFault}
use Rattle.s2ix_text_parts.specs.declared.run_fault.RunFault.TheVariants.{Read, Write, OutOfMemory, ReaderTooLong}
use Rattle.s2ix_cli_run.specs.Step.{step_of}
use Rattle.s2ix_cli_run.specs.LineWants.{LineWants}
use Rattle.s2ix_cli_run.specs.declared.run_end.RunEnd.{RunEnd}
use Rattle.s2ix_cli_run.specs.declared.coming.PieceEnd.{PieceEnd}
use Rattle.s2ix_cli_run.specs.declared.coming.PieceEnd.TheVariants.{GoesOn, Stops}
use Rattle.s2ix_cli_run.specs.Coming.{ended_after, unended_after, kept_of}
use Rattle.s2ix_cli_run.specs.Run.{KeepsOn, IsStateAfter, line_left}
use Rattle.s2ix_cli_run.specs.Script.{MOST, Run, after, counted_in, output_of, refused_in}

-- no byte of a text is a line feed
abbrev pub HasNoFeed : List ℕ → Type 0
HasNoFeed text = All (λ byte. byte ≢ 10) text

-- `more` is the counts `so_far` with those of the lines carried out added; a count that would pass the greatest stays at it
pub record CountsMore (lines_run : List (List ℕ)) (old : State) (so_far more : RunEnd) : Type 0 where
  pub lines : (n : ℕ) → so_far.lines ≡ min n MOST → more.lines ≡ min (n + counted_in old lines_run) MOST
  pub refused : (n : ℕ) → so_far.refused ≡ min n MOST → more.refused ≡ min (n + refused_in old lines_run) MOST

-- lines were carried out, and none ends the run
pub record Reached (lines : List (List ℕ)) (run : Run) (so_far more : RunEnd) : Type 0 where
  pub keeps_on : KeepsOn run.stop run.store_before lines
  pub stands : IsStateAfter lines run
  pub counts : CountsMore lines run.store_before so_far more

-- lines were carried out up to and with one that is refused, which ends the run
pub record Stopped (lines : List (List ℕ)) (run : Run) (so_far more : RunEnd) : Type 0 where
  pub done : List (List ℕ)
  pub line : List ℕ
  pub rest : List (List ℕ)
  pub are : lines ≡ done ++ line ∷ rest
  pub keeps_on : KeepsOn run.stop run.store_before done
  pub stops : run.stop ≡ true
  pub refused : (step_of (after run.store_before done) line).is_refused ≡ true
  pub stands : IsStateAfter (done ++ line ∷ []) run
  pub counts : CountsMore (done ++ line ∷ []) run.store_before so_far more

-- lines were carried out up to one in whose answer the sink failed
pub record CutShort (lines : List (List ℕ)) (run : Run) : Type 0 where
  pub done : List (List ℕ)
  pub line : List ℕ
  pub rest : List (List ℕ)
  pub are : lines ≡ done ++ line ∷ rest
  pub keeps_on : KeepsOn run.stop run.store_before done
  pub store : run.store_after ≡ (step_of (after run.store_before done) line).after
  pub mid : Option (List ℕ)
  pub output : Appends run.taken_before mid (output_of run.store_before done)
  pub cut : AppendsFront mid run.taken_after (step_of (after run.store_before done) line).answer

-- lines were carried out up to one that memory was refused for
pub record Wanting (lines : List (List ℕ)) (run : Run) : Type 0 where
  pub done : List (List ℕ)
  pub line : List ℕ
  pub rest : List (List ℕ)
  pub are : lines ≡ done ++ line ∷ rest
  pub keeps_on : KeepsOn run.stop run.store_before done
  pub stands : IsStateAfter done run
  pub wants : LineWants run.store_after line

-- a fault ended lines
abbrev pub FaultAmong : RunFault → List (List ℕ) → Run → Type 0
FaultAmong Write lines run = CutShort lines run
FaultAmong OutOfMemory lines run = Wanting lines run
FaultAmong Read lines run = ⊥
FaultAmong ReaderTooLong lines run = ⊥

-- the lines that end in a piece were carried out, if `front` had come of the first, and this is held of the next
abbrev pub RunsPiece : Result PieceEnd RunFault → List ℕ → List ℕ → Run → Option (List ℕ) → RunEnd → Type 0
RunsPiece (Ok (GoesOn more)) front piece run held so_far =
    Reached (ended_after front piece) run so_far more × (held ≡ kept_of (unended_after front piece))
RunsPiece (Ok (Stops more)) front piece run held so_far = Stopped (ended_after front piece) run so_far more
RunsPiece (Err fault) front piece run held so_far = FaultAmong fault (ended_after front piece) run

-- the last line was carried out, of which this is all
abbrev pub RunsLast : Result RunEnd RunFault → List ℕ → Run → RunEnd → Type 0
RunsLast (Ok more) front run so_far = IsStateAfter (line_left front) run × CountsMore (line_left front) run.store_before so_far more
RunsLast (Err fault) front run so_far = FaultAmong fault (line_left front) run
