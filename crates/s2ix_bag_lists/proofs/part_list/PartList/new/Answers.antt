-- There are no more parts than pairs.
use Rattle.std.proofs.Common.{arith}
use Rattle.s2ix_bag_lists.proofs.Windows.{filled_count}
use Rattle.s2ix_bag_lists.proofs.part_list.PartList.new.Goals as goal

pub new-requires : goal.new-requires
new-requires c = record {
  within_limit = omega (arith, filled_count c.args.parts.items c.requires.filled, c.requires.within_limit);
}
