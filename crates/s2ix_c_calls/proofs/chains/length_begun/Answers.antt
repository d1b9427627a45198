-- A pair is counted, or begins before, and so do those after it, or none is left.
use Rattle.std.proofs.Common.{◌∙◌, ◌<◌, ◌≤◌, ap, arith}
use Rattle.s2id_core.specs.CellId.{first_of}
use Rattle.s2ix_table_walk.specs.Places.{from_place}
use Rattle.s2ix_c_calls.proofs.Begun.{count_grows, count_ends, count_is_whole, front_short}
use Rattle.s2ix_c_calls.proofs.chains.length_begun.Goals as goal

pub returns-then-span_start-from : goal.returns-then-span_start-from
returns-then-span_start-from g c =
    let early : first_of c.held_at.result.pair.cell < c.args.from = omega arith in
    count_ends c.args.from c.loop-next.begun _ _ _ c.held_at.result
    (ap (from_place (g.T.RangeTable.chain c.args.table.now)) c.in-Some.is ∙ c.held_at.ensures) early c.loop-next.invariant.1

pub overflow_add-begun : goal.overflow_add-begun
overflow_add-begun g c =
    let short = front_short c.args.from (from_place (g.T.RangeTable.chain c.args.table.now) c.args.first) in
    omega (arith, short, c.loop-next.invariant.1, c.requires.within_limit)

pub loop-next-preserved : goal.loop-next-preserved
loop-next-preserved g c =
    let late : c.args.from ≤ first_of c.held_at.result.pair.cell = omega arith in (
      c.outer-next.ensures.place,
      count_grows c.args.from c.loop-next.begun _ _ _ _ c.held_at.result
          (ap (from_place (g.T.RangeTable.chain c.args.table.now)) c.in-Some.is ∙ c.held_at.ensures) c.outer-next.ensures.pairs_are late
          c.loop-next.invariant.1,
    )

pub returns : goal.returns
returns g c = count_is_whole c.args.from c.loop-next.begun _ _ (ap (from_place (g.T.RangeTable.chain c.args.table.now)) c.in_default.is) c.loop-next.invariant.1
