-- A change that is not refused is taken.
use Rattle.std.proofs.Common.{sym, ◌∙◌, subst, List, arith}
use Rattle.s2ix_bag_pairs.specs.Change.{IsChangeList}
use Rattle.s2ix_bag_pairs.specs.Collection.{Collection, LimitedCollection, IsBag}
use Rattle.s2ix_bag_pairs.specs.declared.pair.Entry.{Entry}
use Rattle.s2ix_bag_lists.proofs.Refusals.{taken_from_none, made_is_bag}
use Rattle.s2ix_bag_changes.proofs.bag.Bag.applied.Goals as goal

pub after-requires-clause-before : goal.after-requires-clause-before
after-requires-clause-before c =
    (taken_from_none (record { limits = c.self.inside.limits; held = c.self.inside.lists }) c.entries-entries.result.now
    (sym c.refusal.ensures ∙ c.in_default.is)).before

pub after-requires-clause-within_limit : goal.after-requires-clause-within_limit
after-requires-clause-within_limit c =
    let taken =
    taken_from_none (record { limits = c.self.inside.limits; held = c.self.inside.lists }) c.entries-entries.result.now
    (sym c.refusal.ensures ∙ c.in_default.is) in
    let limits = c.self.inside.limits.in_range in
    omega (arith, taken.within_limit, limits.1)

pub invariant_of-result : goal.invariant_of-result
invariant_of-result c =
    let bag : LimitedCollection = record { limits = c.self.inside.limits; held = c.self.inside.lists } in
    let taken = taken_from_none bag c.entries-entries.result.now (sym c.refusal.ensures ∙ c.in_default.is) in
    let With : Collection → LimitedCollection = λ hs. record { limits = c.self.inside.limits; held = hs } in
    let Bags : Collection → Type 0 = λ hs. IsBag (With hs) in
    let rises = subst (λ (es : List Entry). IsChangeList es) (sym c.entries-entries.ensures.list) c.entries-entries.ensures.rises in
    subst Bags (sym c.in_ok-lists.ensures) (made_is_bag bag c.entries-entries.result.now c.self.invariant rises taken)

pub returns-clause-within : goal.returns-clause-within
returns-clause-within c = invariant_of-result c
