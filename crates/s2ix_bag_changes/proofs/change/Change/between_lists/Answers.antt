-- The change between two collections is a change.
use Rattle.std.proofs.Common.{List, sym, subst}
use Rattle.s2ix_bag_pairs.specs.Change.{IsChangeList}
use Rattle.s2ix_bag_pairs.specs.declared.pair.Entry.{Entry}
use Rattle.s2ix_bag_pairs.proofs.Differences.{between_is_change}
use Rattle.s2ix_bag_changes.proofs.change.Change.between_lists.Goals as goal

pub invariant_of-result : goal.invariant_of-result
invariant_of-result c =
    subst (λ (es : List Entry). IsChangeList es) (sym c.in_ok-entries.ensures)
    (between_is_change c.args.old.now c.args.new.now c.requires.old_rise)
