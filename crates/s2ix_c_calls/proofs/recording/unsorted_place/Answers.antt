-- Each entry is compared with the one before it.
use Rattle.std.proofs.Common.{sym, ap, arith}
use Rattle.std.proofs.lemmas.Bool.{iff_false}
use Rattle.s2ix_bag_lists.proofs.Unsorted.{above_from_last, below_from_last, rank_past}
use Rattle.s2ix_c_calls.proofs.OfEntries.{given_all_rise, given_rise_more, given_stop, none_wrong}
use Rattle.s2ix_c_calls.proofs.recording.unsorted_place.Goals as goal
use Rattle.s2ix_c_calls.proofs.recording.unsorted_place.Goals.{in-Some+else-not-is_before, in_default-last}

pub unreachable-requires : goal.unreachable-requires
unreachable-requires c =
    none_wrong c.args.rows.now c.loop-place.place _ c.in_default.field-0 c.requires c.loop-place-test.true c.in_default.ensures

pub loop-place-preserved : goal.loop-place-preserved
loop-place-preserved c =
    given_rise_more c.args.rows.now c.loop-place.place _ _ c.loop-place.last c.loop-place-test.true (sym c.in-Ok.ensures)
    c.loop-place.invariant
    (elim c.match-last.branch [
      | in-Some+else-not-is_before w ↦
          above_from_last c.loop-place.last w.in-Some.pair _ w.in-Some.is (w.is_before.ensures.0 w.if-not-is_before.false)
      | in_default-last w ↦ omega (arith, ap rank_past w.in_default-last.is)
    ])

pub returns-then-not-is_before : goal.returns-then-not-is_before
returns-then-not-is_before c entries given =
    let below = below_from_last c.loop-place.last c.in-Some.pair _ c.in-Some.is (iff_false c.is_before.ensures c.if-not-is_before.true) in
    sym (given_stop c.args.rows.now c.loop-place.place _ _ c.loop-place.last c.loop-place-test.true (sym c.in-Ok.ensures)
    c.loop-place.invariant below entries given)

pub returns : goal.returns
returns c entries given =
    sym (given_all_rise c.args.rows.now c.loop-place.place c.loop-place.last (omega arith) c.loop-place.invariant entries given)
