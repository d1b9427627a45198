-- Of what was gathered and the lines of the items before this one a front was put, and the rest is gathered.
use Rattle.std.proofs.Common.{◌++◌, take, flat_map}
use Rattle.s2ix_text_write.specs.Gathered.{IsGathered, gathered_in}
use Rattle.s2ix_text_write.proofs.list.gather_lines.Given as goal

abbrev pub invariant-loop-item : goal.invariant-loop-item
invariant-loop-item g l =
    IsGathered g.K.Sink l.fn.sink l.sink (gathered_in l.fn.block ++ flat_map g.A.ListItem.line (take l.item-index l.items))
    (gathered_in l.block)
