-- The sum of all counts fits, and so does each part of it.
use Rattle.std.proofs.Common.{◌≡◌, ap, ◌∙◌, arith}
use Rattle.std.proofs.lemmas.List.Sums.{sum_by-cons}
use Rattle.s2ix_bag_pairs.specs.Collection.{copies_in}
use Rattle.s2ix_bag_pairs.specs.declared.pair.Held.{Held}
use Rattle.s2ix_bag_lists.proofs.Refusals.{copies_bound}
use Rattle.s2ix_bag_changes.proofs.bag.Bag.copies.Goals as goal

pub loop-held-init : goal.loop-held-init
loop-held-init c =
    let whole : copies_in c.into_iter-held-iterator.result ≡ copies_in c.args.self.now.held =
    ap copies_in (c.into_iter-held-iterator.ensures.into_iter_gives ∙ c.iter-held-items.ensures.list) in
    omega (arith, whole)

pub overflow_add-copies : goal.overflow_add-copies
overflow_add-copies c =
    let bound = copies_bound c.args.self.now c.iter-held-items.ensures.within in
    let first = ap copies_in c.in-Some.ensures.steps ∙ sum_by-cons (λ (h : Held). h.count) c.in-Some.held c.next.new.self in
    omega (arith, bound, first, c.loop-held.invariant, c.from-copies.ensures)

pub loop-held-preserved : goal.loop-held-preserved
loop-held-preserved c =
    let first = ap copies_in c.in-Some.ensures.steps ∙ sum_by-cons (λ (h : Held). h.count) c.in-Some.held c.next.new.self in
    omega (arith, first, c.loop-held.invariant, c.from-copies.ensures)

pub returns : goal.returns
returns c =
    let nothing : copies_in c.loop-held.held-iterator ≡ 0 = ap copies_in c.in-None.ensures.steps.0 in
    omega (arith, nothing, c.loop-held.invariant)
