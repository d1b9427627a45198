-- Each iteration looks at the count of its entry's pair in what is left of the collection.
use Rattle.std.proofs.Common.{◌+◌, sym, ap, ◌∙◌, subst, arith}
use Rattle.s2ix_bag_pairs.specs.Collection.{Collection, count_in}
use Rattle.s2ix_bag_lists.proofs.Walks.{Compared, compared_start, compared_step, compared_found}
use Rattle.s2ix_bag_lists.proofs.apply.first_mismatch.Goals as goal

pub loop-place-init : goal.loop-place-init
loop-place-init c = compared_start c.args.held.now c.args.entries.now c.requires.held_rise

pub returns-then-count_first-entry : goal.returns-then-count_first-entry
returns-then-count_first-entry c =
    let e = c.index-entries-place.result in
    let counted = c.count_first.ensures ∙ ap (λ hs. count_in hs e.pair) c.split_at.ensures.back in
    sym (compared_found c.args.held.now c.args.entries.now c.loop-place.rest.now c.loop-place.place c.next_from.result e (omega arith)
    c.index-entries-place.is c.requires.entries_rise c.loop-place.invariant c.next_from.ensures.below
    (λ same. c.if-count_first-entry.true (counted ∙ same)))

pub loop-place-preserved : goal.loop-place-preserved
loop-place-preserved c =
    let e = c.index-entries-place.result in
    let counted = c.count_first.ensures ∙ ap (λ hs. count_in hs e.pair) c.split_at.ensures.back in
    let Next : Collection → Type 0 = λ x. Compared c.args.held.now c.args.entries.now x (c.loop-place.place + 1) in
    subst Next (sym c.split_at.ensures.back)
    (compared_step c.args.held.now c.args.entries.now c.loop-place.rest.now c.loop-place.place c.next_from.result e (omega arith)
    c.index-entries-place.is c.requires.entries_rise c.loop-place.invariant c.next_from.ensures.below
    (sym counted ∙ c.if-count_first-entry.false))
