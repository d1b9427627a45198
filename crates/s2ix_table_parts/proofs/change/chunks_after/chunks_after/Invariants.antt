use Rattle.std.proofs.Common.{length}
use Rattle.s2ix_bag_lists.specs.Faces.{all_of}
use Rattle.s2ix_bag_pairs.specs.Change.{changed}
use Rattle.s2ix_table_parts.proofs.ChunksChanged.{ChunksMade}
use Rattle.s2ix_table_parts.proofs.change.chunks_after.chunks_after.Given as goal

abbrev pub invariant-loop-ahead : goal.invariant-loop-ahead
invariant-loop-ahead l = ChunksMade (changed (all_of l.chunks) l.entries) l.made.items l.ahead l.rest

abbrev pub decreases-loop-ahead : goal.decreases-loop-ahead
decreases-loop-ahead l = length l.ahead
