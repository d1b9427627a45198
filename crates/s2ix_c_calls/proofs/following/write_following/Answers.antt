-- One more cell follows, or the numbers are not of cells that do.
use Rattle.std.proofs.Common.{◌≡◌, ◌<◌, false, refl, length, get_or, rules, arith}
use Rattle.std.proofs.lemmas.Bool.{both_ways}
use Rattle.s2id_core.specs.CellId.{raw_of}
use Rattle.s2ix_c_calls.proofs.Follows.{front_next, not_following}
use Rattle.s2ix_c_calls.proofs.OfNumbers.{each_valid}
use Rattle.s2ix_c_calls.proofs.following.write_following.Goals as goal

pub returns-in_default-clause-wrong : goal.returns-in_default-clause-wrong
returns-in_default-clause-wrong c none f =
    both_ways false refl
    (c.in_default.ensures.found.1 (each_valid c.args.ids.now c.loop-place.place (f.cells, f.are) c.loop-place-test.true))

pub returns-then-span_start-end-clause-wrong : goal.returns-then-span_start-end-clause-wrong
returns-then-span_start-end-clause-wrong c none =
    let i = c.loop-place.place in
    let cell = c.in-Some.cell in
    let is : raw_of cell ≡ get_or c.args.ids.now i 0 = search rules in
    let room : i < length c.loop-place.room = omega arith in
    not_following c.args.ids.now c.loop-place.room i c.loop-place.end cell c.loop-place-test.true room is c.loop-place.invariant
    (omega (arith, c.span_start.ensures, c.if-span_start-end.true))

pub loop-place-preserved : goal.loop-place-preserved
loop-place-preserved c =
    let i = c.loop-place.place in
    let cell = c.in-Some.cell in
    let is : raw_of cell ≡ get_or c.args.ids.now i 0 = search rules in
    let room : i < length c.loop-place.room = omega arith in
    let next =
    front_next c.args.ids.now c.loop-place.room i c.loop-place.end cell c.loop-place-test.true room is c.loop-place.invariant
    (omega (arith, c.span_start.ensures, c.if-span_start-end.false)) in
    search (rules, next)
