-- The part at hand is one of those that are not empty.
use Rattle.std.proofs.Common.{◌<◌, length, arith, subst, sym}
use Rattle.s2ix_bag_pairs.specs.Collection.{Collection}
use Rattle.s2ix_bag_lists.proofs.Joins.{filled_at}
use Rattle.s2ix_bag_lists.proofs.merged_parts.add_all.Goals as goal

pub add-requires-clause-some : goal.add-requires-clause-some
add-requires-clause-some c =
    subst (λ (x : Collection). 0 < length x) (sym c.part-item.is)
    (filled_at c.args.parts.now c.loop-part.part-index c.part-item.result (omega arith) c.requires.some)
