-- One more row gives an entry, or is the first that gives none.
use Rattle.std.proofs.Common.{sym}
use Rattle.s2ix_c_calls.proofs.OfEntries.{one_more}
use Rattle.s2ix_c_calls.proofs.recording.wrong_numbers.Goals as goal

pub loop-place-preserved : goal.loop-place-preserved
loop-place-preserved c = (
  one_more c.args.rows.now c.loop-place.place _ c.loop-place-test.true _ c.loop-place.invariant.0 (sym c.in_default.ensures),
  c.loop-place.invariant.1,
)
