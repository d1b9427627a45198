-- The parts before this one were written whole.
use Rattle.std.proofs.Common.{Ok, take}
use Rattle.s2ix_text_parts.specs.Puts.{Writes, text_of_parts}
use Rattle.s2ix_text_parts.proofs.put.put_parts.Given as goal

abbrev pub invariant-loop-part : goal.invariant-loop-part
invariant-loop-part g l =
    Writes {A = Unit {0}} g.K.Sink l.fn.sink l.sink (Ok tt) (text_of_parts (take l.part-index l.parts))
