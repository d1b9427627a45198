use Rattle.std.proofs.Common.{take}
use Rattle.s2ix_bag_lists.specs.Faces.{all_of}
use Rattle.s2ix_table_parts.specs.Layered.{HaveLightCells}
use Rattle.s2ix_table_parts.proofs.change.light_after.are_light.Given as goal

abbrev pub invariant-loop-entry : goal.invariant-loop-entry
invariant-loop-entry l = HaveLightCells (take l.entry-index l.entries) (all_of l.heavy)
