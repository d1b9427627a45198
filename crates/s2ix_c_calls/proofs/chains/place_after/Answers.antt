-- One more is passed, or none is left.
use Rattle.std.proofs.Common.{◌≡◌, ◌<◌, ◌∙◌, ap, arith, drop, length, sym}
use Rattle.s2ix_table_walk.specs.Places.{from_place}
use Rattle.s2ix_c_calls.proofs.Filling.{passed_all, passed_on}
use Rattle.s2ix_c_calls.proofs.chains.place_after.Goals as goal

pub returns-in_default-clause-pairs : goal.returns-in_default-clause-pairs
returns-in_default-clause-pairs g c =
    let chain = g.T.RangeTable.chain c.args.table.now in
    sym (passed_all (from_place chain c.args.first) (from_place chain c.loop-passed.next) c.loop-passed.passed c.args.count c.loop-passed.invariant.1
    (ap (from_place chain) c.in_default.is) c.loop-passed.invariant.2)

pub loop-passed-preserved : goal.loop-passed-preserved
loop-passed-preserved g c =
    let chain = g.T.RangeTable.chain c.args.table.now in
    let here = ap (from_place chain) c.in-Some.is in (
      c.outer-next.ensures.place,
      c.outer-next.ensures.pairs_are
          ∙ passed_on (from_place chain c.args.first) c.loop-passed.passed (chain c.in-Some.place) (sym here ∙ c.loop-passed.invariant.1)
          (c.loop-passed.invariant.0 c.in-Some.place c.in-Some.is),
      omega arith,
    )
