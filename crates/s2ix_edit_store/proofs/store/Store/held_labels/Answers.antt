-- The list is that of the store's bag, which is within its limits.
use Rattle.std.proofs.Common.{◌≤◌, ◌∙◌, ap, length, subst}
use Rattle.std.proofs.lemmas.Result.{IfOk-weaker}
use Rattle.s2ix_bag_pairs.specs.Limits.{pairs_limit}
use Rattle.s2ix_edit_plan.specs.State.{State}
use Rattle.s2ix_edit_store.specs.HeldLabels.{held_labels}
use Rattle.s2ix_edit_store.proofs.HeldLabels.{all_copies, all_few, all_labels, all_pairs}
use Rattle.s2ix_edit_store.proofs.store.Store.held_labels.Goals as goal

pub returns-clause-list : goal.returns-clause-list
returns-clause-list g c =
    IfOk-weaker c.held_labels_of.result _ _
    (λ list is. is ∙ ap (λ (s : State). held_labels s.bag.held) c.self.view_is)
    c.held_labels_of.ensures.list

pub returns-clause-labels : goal.returns-clause-labels
returns-clause-labels g c =
    IfOk-weaker c.held_labels_of.result _ _ (λ list is. all_labels c.args.self.now.bag.held list.items is) (returns-clause-list g c)

pub returns-clause-pairs : goal.returns-clause-pairs
returns-clause-pairs g c =
    IfOk-weaker c.held_labels_of.result _ _ (λ list is. all_pairs c.args.self.now.bag.held list.items is) (returns-clause-list g c)

pub returns-clause-copies : goal.returns-clause-copies
returns-clause-copies g c =
    IfOk-weaker c.held_labels_of.result _ _ (λ list is. all_copies c.args.self.now.bag.held list.items is) (returns-clause-list g c)

pub returns-clause-within_limit : goal.returns-clause-within_limit
returns-clause-within_limit g c =
    let within_limit = subst (λ (s : State). length s.bag.held ≤ pairs_limit s.bag.limits) c.self.view_is c.self.invariant.0.bag.within_limit in
    IfOk-weaker c.held_labels_of.result _ _ (λ list is. all_few c.args.self.now.bag.held list.items is (pairs_limit c.args.self.now.bag.limits) within_limit)
    (returns-clause-list g c)
