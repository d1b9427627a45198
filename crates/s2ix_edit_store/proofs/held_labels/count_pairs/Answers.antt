-- A bag holds at most a million pairs, so the sums fit.
use Rattle.std.proofs.Common.{◌∙◌, ap, arith, set}
use Rattle.std.proofs.lemmas.List.{length-set}
use Rattle.s2ix_bag_lists.proofs.Refusals.{copies_bound}
use Rattle.s2ix_edit_store.proofs.HeldLabels.{fewer, label_is_held, labels_rise, lesser, next_totals, one_moved}
use Rattle.s2ix_edit_store.proofs.held_labels.count_pairs.Goals as goal

pub place_of-place-requires-clause-rise : goal.place_of-place-requires-clause-rise
place_of-place-requires-clause-rise c = labels_rise c.args.bag.now.held c.args.labels.now c.requires.labels

pub place_of-place-requires-clause-held : goal.place_of-place-requires-clause-held
place_of-place-requires-clause-held c =
    label_is_held c.args.bag.now.held c.args.labels.now c.requires.labels c.loop-held.yielded c.loop-held.held-iterator c.next.new.self c.in-Some.held
    c.loop-held.invariant.0 c.in-Some.ensures.steps

pub with_pair-requires-clause-pairs : goal.with_pair-requires-clause-pairs
with_pair-requires-clause-pairs c =
    let less =
    fewer c.args.bag.now.held c.args.labels.now c.requires.labels c.loop-held.yielded c.loop-held.held-iterator c.next.new.self c.in-Some.held
    c.loop-held.invariant.0 c.in-Some.ensures.steps c.loop-held.totals c.place_of-place.result c.loop-held.invariant.1 c.place_of-place.ensures.within
    c.place_of-place.ensures.found c.index-totals-place.result c.index-totals-place.is in
    omega (arith, less, c.iter-held-items.ensures.within.within_limit, c.args.bag.now.limits.in_range.1)

pub with_pair-requires-clause-copies : goal.with_pair-requires-clause-copies
with_pair-requires-clause-copies c =
    let less =
    lesser c.args.bag.now.held c.args.labels.now c.requires.labels c.loop-held.yielded c.loop-held.held-iterator c.next.new.self c.in-Some.held
    c.loop-held.invariant.0 c.in-Some.ensures.steps c.loop-held.totals c.place_of-place.result c.loop-held.invariant.1 c.place_of-place.ensures.within
    c.place_of-place.ensures.found c.index-totals-place.result c.index-totals-place.is in
    omega (arith, less, copies_bound c.args.bag.now c.iter-held-items.ensures.within)

pub loop-held-preserved : goal.loop-held-preserved
loop-held-preserved c =
    let totals = c.loop-held.totals in
    let place = c.place_of-place.result in (
      one_moved c.args.bag.now.held c.args.labels.now c.requires.labels c.loop-held.yielded c.loop-held.held-iterator c.next.new.self c.in-Some.held
          c.loop-held.invariant.0 c.in-Some.ensures.steps,
      ap (set totals place) c.with_pair.ensures
          ∙ next_totals c.args.bag.now.held c.args.labels.now c.requires.labels c.loop-held.yielded c.loop-held.held-iterator c.next.new.self c.in-Some.held
          c.loop-held.invariant.0 c.in-Some.ensures.steps totals place c.loop-held.invariant.1 c.place_of-place.ensures.within
          c.place_of-place.ensures.found c.index-totals-place.result c.index-totals-place.is,
      length-set totals place c.with_pair.result ∙ c.loop-held.invariant.2,
    )
