use Rattle.s2ix_edit_store.proofs.HeldLabels.{sorted_labels}
use Rattle.s2ix_edit_store.proofs.held_labels.labels_of.Goals as goal

pub returns : goal.returns
returns c =
    sorted_labels c.args.bag.now.held _ c.sort_unstable.new.self.items c.dedup.new.self.items c.in_ok-labels.ensures
    c.sort_unstable.ensures.permutation c.sort_unstable.ensures.sorted c.dedup.ensures.filtered
