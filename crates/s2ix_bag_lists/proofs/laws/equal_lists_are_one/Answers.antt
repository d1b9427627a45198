use Rattle.std.specs.Cmp.Lexicographic.{pointwise_decides}
use Rattle.s2ix_bag_pairs.proofs.Equal.{held_decided}
use Rattle.s2ix_bag_lists.proofs.laws.equal_lists_are_one.Goals as goal

pub returns : goal.returns
returns c = pointwise_decides held_decided
