use Rattle.std.proofs.Common.{◌≡◌, ◌++◌, length}
use Rattle.s2ix_bag_lists.specs.Faces.{all_of}
use Rattle.s2ix_table_parts.specs.Layers.{joined_layers}
use Rattle.s2ix_table_parts.specs.Split.{AreSplit, HaveLesserCells}
use Rattle.s2ix_table_parts.proofs.split.split.Given as goal

abbrev pub invariant-loop-rest : goal.invariant-loop-rest
invariant-loop-rest l =
    AreSplit l.layers.light.items l.layers.chunks.items
    × (joined_layers l.layers.light.items (all_of l.layers.chunks.items) ++ l.rest ≡ l.held)
    × HaveLesserCells (joined_layers l.layers.light.items (all_of l.layers.chunks.items)) l.rest

abbrev pub decreases-loop-rest : goal.decreases-loop-rest
decreases-loop-rest l = length l.rest
