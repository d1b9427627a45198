-- Between two pieces: the lines whose ends were read are carried out, and what was written is flushed.
use Rattle.std.proofs.Common.{◌≡◌, ◌⊎◌}
use Rattle.s2ix_text_parts.specs.Pieces.{ReadsOn}
use Rattle.s2ix_cli_run.specs.InTurn.{AnswersInTurn}
use Rattle.s2ix_cli_run.specs.Run.{IsFlushed}
use Rattle.s2ix_cli_run.proofs.Between.{Between}
use Rattle.s2ix_cli_run.proofs.LineSteps.{over}
use Rattle.s2ix_cli_run.proofs.script.run.Given as goal

abbrev pub invariant-pieces : goal.invariant-pieces
invariant-pieces g l =
    Between (g.S.Source.left l.fn.source) (g.S.Source.left l.source) l.held
    (over l.options.stop l.fn.store l.store (g.K.Sink.taken l.fn.sink) (g.K.Sink.taken l.sink)) l.so_far
    × ReadsOn g.S.Source.gives l._turn l.fn.source l.source
    × ((l.sink ≡ l.fn.sink) ⊎ IsFlushed g.K.Sink.flushes l.sink)
    × (g.S.Source.fault_count l.source ≡ g.S.Source.fault_count l.fn.source)
    × (g.K.Sink.fault_count l.sink ≡ g.K.Sink.fault_count l.fn.sink)
    × AnswersInTurn g.S.Source g.K.Sink l.fn.store l._turn l.fn.source l.fn.sink l.source l.sink
