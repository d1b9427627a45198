-- The groups of the changes before this one were written whole.
use Rattle.std.proofs.Common.{Ok, take, flat_map}
use Rattle.s2ix_text_parts.specs.Puts.{Writes}
use Rattle.s2ix_text_write.specs.Journal.{group_text}
use Rattle.s2ix_text_write.proofs.journal.write_groups.Given as goal

abbrev pub invariant-loop-change : goal.invariant-loop-change
invariant-loop-change g l =
    Writes {A = Unit {0}} g.K.Sink l.fn.sink l.sink (Ok tt) (flat_map group_text (take l.change-index l.changes))
