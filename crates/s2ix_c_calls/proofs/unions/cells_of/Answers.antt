-- Each number is a cell's.
use Rattle.std.proofs.Common.{false, refl}
use Rattle.std.proofs.lemmas.Bool.{both_ways}
use Rattle.s2ix_c_calls.proofs.OfNumbers.{each_valid}
use Rattle.s2ix_c_calls.proofs.unions.cells_of.Goals as goal

pub unreachable-requires : goal.unreachable-requires
unreachable-requires c =
    let ids = c.args.ids.now in
    let place = c.loop-id.id-index in
    both_ways false refl (c.in-None.ensures.found.1 (each_valid ids place c.requires c.loop-id-test.true))
