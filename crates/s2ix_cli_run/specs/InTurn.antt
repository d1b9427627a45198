-- Pieces that are answered in turn: the answers to each are out and flushed before another one is asked for.
use Rattle.std.specs.Prelude.{◌≡◌, ℕ, zero, suc, ◌<◌, Result, Ok, Err, List}
use Rattle.std.specs.Io.KnownBytes.{Appends, Consumes, Keeps}
use Rattle.s2ix_edit_plan.specs.State.{State}
use Rattle.s2ix_text_parts.specs.declared.run_fault.RunFault.{RunFault}
use Rattle.s2ix_text_parts.specs.declared.run_fault.RunFault.TheVariants.{Read, Write, OutOfMemory, ReaderTooLong}
use Rattle.s2ix_text_parts.specs.declared.sink.Sink.{Ghosts as Sink}
use Rattle.s2ix_text_parts.specs.declared.source.Source.{Ghosts as Source}
use Rattle.s2ix_cli_run.specs.declared.run_end.RunEnd.{RunEnd}
use Rattle.s2ix_cli_run.specs.Coming.{ended_lines}
use Rattle.s2ix_cli_run.specs.Run.{IsFlushed}
use Rattle.s2ix_cli_run.specs.Script.{output_of}

-- between the two states of a source some input was read, and between those of a sink it took the whole output of the lines that this input
-- ended; then the sink was flushed
pub record IsAnswered {S K : Type 0} (source : Source S) (sink : Sink K) (store : State) (old : S) (old_sink : K) (new : S)
    (new_sink : K) : Type 0 where
  pub input : List ℕ
  pub consumed : Consumes (source.left old) (source.left new) input
  pub output : Appends (sink.taken old_sink) (sink.taken new_sink) (output_of store (ended_lines input))
  pub flushed : IsFlushed sink.flushes new_sink

-- between the two states of a source so many pieces were read, each with a byte at least; after each of them the sink stood where all that
-- was read by then is answered, at last in its second state
abbrev pub AnswersInTurn : {S K : Type 0} → Source S → Sink K → State → ℕ → S → K → S → K → Type 0
AnswersInTurn source sink store zero old old_sink new new_sink = (old ≡ new) × (old_sink ≡ new_sink)
AnswersInTurn {S} {K} source sink store (suc pieces) old old_sink new new_sink =
    (mid : S) × (mid_sink : K) × AnswersInTurn source sink store pieces old old_sink mid mid_sink
    × (n : ℕ) × (0 < n) × source.gives mid n new × IsAnswered source sink store old old_sink new new_sink

-- at most one piece was asked for between the two states of a source: none if too many had been read, and one that failed at a read fault
abbrev pub AsksOnce : {S : Type 0} → Source S → Result RunEnd RunFault → S → S → Type 0
AsksOnce source (Ok so_far) old new = (n : ℕ) × source.gives old n new
AsksOnce source (Err Read) old new = Keeps (source.left old) (source.left new)
AsksOnce source (Err Write) old new = (n : ℕ) × source.gives old n new
AsksOnce source (Err OutOfMemory) old new = (n : ℕ) × source.gives old n new
AsksOnce source (Err ReaderTooLong) old new = old ≡ new

-- a run answered in turn all pieces but the last one that it asked for
abbrev pub AnswersBeforeAsking : {S K : Type 0} → Source S → Sink K → State → Result RunEnd RunFault → S → K → S → Type 0
AnswersBeforeAsking {S} {K} source sink store result old old_sink new =
    (pieces : ℕ) × (mid : S) × (mid_sink : K) × AnswersInTurn source sink store pieces old old_sink mid mid_sink
    × AsksOnce source result mid new
