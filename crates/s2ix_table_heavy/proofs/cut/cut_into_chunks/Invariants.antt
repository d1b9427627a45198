use Rattle.std.proofs.Common.{◌≡◌, ◌++◌, length}
use Rattle.s2ix_bag_lists.specs.Faces.{all_of}
use Rattle.s2ix_bag_lists.specs.Parts.{AreFilled}
use Rattle.s2ix_table_heavy.proofs.Cutting.{AreOfOneCell}
use Rattle.s2ix_table_heavy.proofs.cut.cut_into_chunks.Given as goal

abbrev pub invariant-loop-rest : goal.invariant-loop-rest
invariant-loop-rest l = (all_of l.chunks.items ++ l.rest ≡ l.held) × AreFilled l.chunks.items × AreOfOneCell l.chunks.items

abbrev pub decreases-loop-rest : goal.decreases-loop-rest
decreases-loop-rest l = length l.rest
