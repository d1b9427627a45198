-- What was read so far is the text, by one piece a turn, and no call has failed.
use Rattle.std.proofs.Common.{◌≡◌}
use Rattle.std.specs.Io.KnownBytes.{Consumes}
use Rattle.s2ix_text_parts.specs.Pieces.{ReadsOn}
use Rattle.s2ix_text_parts.proofs.reading.read_whole.Given as goal

abbrev pub invariant-pieces : goal.invariant-pieces
invariant-pieces g l =
    Consumes (g.S.Source.left l.fn.source) (g.S.Source.left l.source) l.text.items × ReadsOn g.S.Source.gives l._turn l.fn.source l.source
    × (g.S.Source.fault_count l.source ≡ g.S.Source.fault_count l.fn.source)
