-- A store holds at most a million pairs.
use Rattle.std.proofs.Common.{arith, ap, length}
use Rattle.std.proofs.lemmas.List.{length-append}
use Rattle.s2ix_bag_pairs.specs.Collection.{LimitedCollection}
use Rattle.s2ix_bag_pairs.specs.Limits.{pairs_limit}
use Rattle.s2ix_c_calls.proofs.Begun.{of_label_at_most}
use Rattle.s2ix_c_calls.proofs.listing.count_labelled.Goals as goal

pub overflow_add-count : goal.overflow_add-count
overflow_add-count c =
    let bag = c.args.store.now.bag in
    let held = ap (λ (b : LimitedCollection). length b.held) c.bag.ensures.bag in
    let limit = ap (λ (b : LimitedCollection). pairs_limit b.limits) c.bag.ensures.bag in
    let all = ap length c.loop-held.invariant.1 in
    let parts = length-append c.loop-held.yielded c.loop-held._held-iterator in
    omega (arith, c.loop-held.invariant.0, all, parts, of_label_at_most c.args.label bag.held, c.bag.ensures.within.within_limit, held, limit, bag.limits.in_range.1)
