-- Each entry is compared with the one before it.
use Rattle.std.proofs.Common.{sym, ap, arith}
use Rattle.std.proofs.lemmas.Bool.{iff_false}
use Rattle.s2ix_bag_lists.proofs.Unsorted.{above_from_last, below_from_last, rank_past, rise_more, stops_here, all_rise}
use Rattle.s2ix_bag_lists.proofs.entries.unsorted_place.Goals as goal
use Rattle.s2ix_bag_lists.proofs.entries.unsorted_place.Goals.{in-Some+else-not-is_before, in_default}

pub loop-place-preserved : goal.loop-place-preserved
loop-place-preserved c =
    rise_more c.args.entries.now c.loop-place.place c.loop-place.last c.index-entries-place.result c.loop-place-test.true
    c.index-entries-place.is c.loop-place.invariant
    (elim c.match-last.branch [
      | in-Some+else-not-is_before w ↦
          above_from_last c.loop-place.last w.in-Some.pair _ w.in-Some.is (w.is_before.ensures.0 w.if-not-is_before.false)
      | in_default w ↦ omega (arith, ap rank_past w.in_default.is)
    ])

pub returns-then-not-is_before : goal.returns-then-not-is_before
returns-then-not-is_before c =
    let below = below_from_last c.loop-place.last c.in-Some.pair _ c.in-Some.is (iff_false c.is_before.ensures c.if-not-is_before.true) in
    sym (stops_here c.args.entries.now c.loop-place.place c.loop-place.last c.index-entries-place.result c.loop-place-test.true
    c.index-entries-place.is c.loop-place.invariant below)

pub returns : goal.returns
returns c = sym (all_rise c.args.entries.now c.loop-place.place c.loop-place.last (omega arith) c.loop-place.invariant)
