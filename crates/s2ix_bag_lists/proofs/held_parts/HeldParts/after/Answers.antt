-- What a change makes of a rising list rises.
use Rattle.std.proofs.Common.{[], sym, subst}
use Rattle.s2ix_bag_pairs.specs.Collection.{IsCollection}
use Rattle.s2ix_bag_pairs.proofs.Changes.{changed_keeps}
use Rattle.s2ix_bag_lists.proofs.held_parts.HeldParts.after.Goals as goal

pub new_in_parts_of-requires-clause-rises : goal.new_in_parts_of-requires-clause-rises
new_in_parts_of-requires-clause-rises c =
    subst IsCollection (sym c.in_ok-held-in-None.ensures) (changed_keeps [] c.args.entries.now tt c.requires.entries_rise)
