-- One more number is a cell's, or is the first that is not.
use Rattle.std.proofs.Common.{get_or, refl}
use Rattle.s2ix_c_calls.proofs.OfNumbers.{one_more}
use Rattle.s2ix_c_calls.proofs.unions.wrong_cell.Goals as goal

pub loop-place-preserved : goal.loop-place-preserved
loop-place-preserved c =
    let ids = c.args.ids.now in
    one_more ids c.loop-place.place (get_or ids c.loop-place.place 0) c.loop-place-test.true refl c.loop-place.invariant (c.in-Some.ensures.found.0 refl)
