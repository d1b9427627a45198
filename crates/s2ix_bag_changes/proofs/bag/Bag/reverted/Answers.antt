-- The change that takes another one back is taken.
use Rattle.std.proofs.Common.{sym, ◌∙◌, subst, List, arith}
use Rattle.s2ix_bag_pairs.specs.Change.{IsChangeList}
use Rattle.s2ix_bag_pairs.specs.declared.pair.Entry.{Entry}
use Rattle.s2ix_bag_changes.proofs.Reverted.{back_taken, back_is_bag}
use Rattle.s2ix_bag_changes.proofs.bag.Bag.reverted.Goals as goal

pub after-requires-clause-before : goal.after-requires-clause-before
after-requires-clause-before c =
    (back_taken _ c.args.self.now c.args.change.now c.entries.result.now c.self.view_is
    (c.entries.ensures.list ∙ c.in_ok-back.ensures.entries) c.in_ok-back.ensures.accepted).before

pub after-requires-clause-within_limit : goal.after-requires-clause-within_limit
after-requires-clause-within_limit c =
    let taken =
    back_taken _ c.args.self.now c.args.change.now c.entries.result.now c.self.view_is
    (c.entries.ensures.list ∙ c.in_ok-back.ensures.entries) c.in_ok-back.ensures.accepted in
    let limits = c.self.inside.limits.in_range in
    omega (arith, taken.within_limit, limits.1)

pub invariant_of-result : goal.invariant_of-result
invariant_of-result c =
    let rises = subst (λ (es : List Entry). IsChangeList es) (sym c.entries.ensures.list) c.entries.ensures.rises in
    let taken =
    back_taken _ c.args.self.now c.args.change.now c.entries.result.now c.self.view_is
    (c.entries.ensures.list ∙ c.in_ok-back.ensures.entries) c.in_ok-back.ensures.accepted in
    back_is_bag _ c.entries.result.now c.in_ok-lists.lists c.self.invariant rises taken c.in_ok-lists.ensures

pub returns-clause-within : goal.returns-clause-within
returns-clause-within c =
    let rises = subst (λ (es : List Entry). IsChangeList es) (sym c.entries.ensures.list) c.entries.ensures.rises in
    let taken =
    back_taken _ c.args.self.now c.args.change.now c.entries.result.now c.self.view_is
    (c.entries.ensures.list ∙ c.in_ok-back.ensures.entries) c.in_ok-back.ensures.accepted in
    back_is_bag _ c.entries.result.now c.in_ok-lists.lists c.self.invariant rises taken c.in_ok-lists.ensures
