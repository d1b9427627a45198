use Rattle.std.proofs.Common.{◌≡◌, ◌++◌, length}
use Rattle.s2ix_bag_lists.specs.Faces.{all_of}
use Rattle.s2ix_bag_lists.specs.Parts.{AreFilled}
use Rattle.s2ix_bag_lists.proofs.cut.cut_at.Given as goal

abbrev pub invariant-loop-rest : goal.invariant-loop-rest
invariant-loop-rest l = (all_of l.parts.items ++ l.rest ≡ l.held) × AreFilled l.parts.items × (length l.rest_ends ≡ length l.rest)

abbrev pub decreases-loop-rest : goal.decreases-loop-rest
decreases-loop-rest l = length l.rest
