-- One more row is out, or it has no room, or the next pair begins before, or none is left.
use Rattle.std.proofs.Common.{rules, ◌≡◌, ◌<◌, ◌≤◌, ◌+◌, ◌∙◌, ◌++◌, None, ap, sym, arith, length, map, take, drop, slice_set}
use Rattle.std.proofs.lemmas.Grind.{drop_more_same}
use Rattle.std.proofs.lemmas.List.{drop-set-lt}
use Rattle.s2id_core.specs.CellId.{first_of}
use Rattle.s2ix_table_walk.specs.Places.{from_place}
use Rattle.s2ix_table_walk.specs.Walking.{front_from}
use Rattle.s2ix_c_calls.specs.Lists.{row_of}
use Rattle.s2ix_c_calls.proofs.Begun.{chain_goes_on, chain_stops, shorter_chain}
use Rattle.s2ix_c_calls.proofs.Filling.{goes_out}
use Rattle.s2ix_c_calls.proofs.chains.write_begun.Goals as goal

pub returns-then-span_start-from-clause-rows : goal.returns-then-span_start-from-clause-rows
returns-then-span_start-from-clause-rows g c =
    let chain = g.T.RangeTable.chain c.args.table.now in
    let early : first_of c.held_at-held.result.pair.cell < c.args.from = omega arith in
    ap (λ l. take c.loop-next.count c.loop-next.out ++ map row_of l)
    (sym (chain_stops c.args.from _ _ c.held_at-held.result (ap (from_place chain) c.in-Some.is ∙ c.held_at-held.ensures) early))
    ∙ c.loop-next.invariant.1

pub loop-next-preserved : goal.loop-next-preserved
loop-next-preserved g c =
    let chain = g.T.RangeTable.chain c.args.table.now in
    let l = c.loop-next in
    let late : c.args.from ≤ first_of c.held_at-held.result.pair.cell = omega arith in
    let is = ap (from_place chain) c.in-Some.is ∙ c.held_at-held.ensures in
    let less : l.count < length l.out = omega arith in
    let after : drop (l.count + 1) (slice_set l.out l.count c.row_for.result) ≡ drop (l.count + 1) c.args.out.now = search (rules, drop-set-lt, drop_more_same) in
    let long : length (slice_set l.out l.count c.row_for.result) ≡ length c.args.out.now = search rules in (
      c.outer-next.ensures.place,
      goes_out l.out c.row_for.result (row_of c.held_at-held.result) l.count _ _ _ less
          (chain_goes_on c.args.from _ _ _ c.held_at-held.result is c.outer-next.ensures.pairs_are late) c.row_for.ensures l.invariant.1,
      search rules,
      after,
      long,
      shorter_chain _ _ _ c.held_at-held.result _ is c.outer-next.ensures.pairs_are l.invariant.5,
    )

pub returns-clause-rows : goal.returns-clause-rows
returns-clause-rows g c =
    let chain = g.T.RangeTable.chain c.args.table.now in
    ap (λ l. take c.loop-next.count c.loop-next.out ++ map row_of (front_from c.args.from l)) (sym (ap (from_place chain) c.in_default.is))
    ∙ c.loop-next.invariant.1
