-- The line of this turn's pair is gathered after those before it, or the sink fails; then the end line.
use Rattle.std.proofs.Common.{◌≡◌, ◌<◌, ℕ, List, Some, length, get_or, refl, sym, ap, ◌∙◌, arith}
use Rattle.std.specs.Prelude.{slice_get}
use Rattle.std.proofs.lemmas.Option.{slice_get_read}
use Rattle.std.proofs.lemmas.List.{length_push}
use Rattle.s2id_core.specs.CellId.{raw_of}
use Rattle.s2ix_table_walk.specs.Contents.{contents_at}
use Rattle.s2ix_table_walk.specs.Places.{from_place}
use Rattle.s2ix_table_queries.specs.declared.iter.ChainIter.{ChainIter}
use Rattle.s2ix_table_walk.proofs.Over.{length_contents}
use Rattle.s2ix_table_queries.proofs.Yielding.{yields_turn, yields_end}
use Rattle.s2ix_text_write.specs.Lists.{held_line}
use Rattle.s2ix_bag_pairs.specs.declared.pair.Held.{Held}
use Rattle.s2ix_text_write.proofs.Gathered.{gathered_item, list_fault, list_put}
use Rattle.s2ix_cli_answers.proofs.ranges.write_contents.Goals as goal

-- the pair of this turn stands at the place that is counted
counted : (all : List Held) (count turns : ℕ) (held : Held) → count ≡ turns → turns < length all → held ≡ get_or all turns held
    → slice_get all count ≡ Some held
counted all count turns held same less is =
    slice_get_read all (length all) count held refl (omega (arith, same, less)) (is ∙ ap (λ i. get_or all i held) (sym same))

pub overflow_add-count : goal.overflow_add-count
overflow_add-count g c =
    let all = contents_at (raw_of c.args.leaf) (g.T.RangeTable.pairs c.args.table.now) in
    let turn =
    yields_turn (λ (it : ChainIter g.row.T.Denot g.row.T-Place.Denot g.T.RangeTable). from_place (g.T.RangeTable.chain it.table.now)
    it.next) _ _ _ c.next.new.self all c.loop-held.yielded _ c.in-Some.held c.chain_at-held-items.ensures
    c.into_iter-held-iterator.ensures.into_iter_gives c.loop-held.yielded_by c.in-Some.is c.next.ensures.steps in
    let less : length c.loop-held.yielded < length all = turn.0 in
    let within = length_contents (raw_of c.args.leaf) (g.T.RangeTable.pairs c.args.table.now) in
    let within_limit = g.met.T.RangeTable.within_limit c.args.table.now in
    let is = c.loop-held.invariant.2 in
    omega arith

pub loop-held-preserved : goal.loop-held-preserved
loop-held-preserved g c =
    let all = contents_at (raw_of c.args.leaf) (g.T.RangeTable.pairs c.args.table.now) in
    let turn = yields_turn
    (λ (it : ChainIter g.row.T.Denot g.row.T-Place.Denot g.T.RangeTable). from_place (g.T.RangeTable.chain it.table.now) it.next) _ _ _
    c.next.new.self all c.loop-held.yielded _ c.in-Some.held c.chain_at-held-items.ensures c.into_iter-held-iterator.ensures.into_iter_gives
    c.loop-held.yielded_by c.in-Some.is c.next.ensures.steps in (
      tt,
      tt,
      omega (arith, c.loop-held.invariant.2, length_push c.loop-held.yielded c.in-Some.held),
      gathered_item held_line all c.loop-held.count c.in-Some.held
          (counted all c.loop-held.count (length c.loop-held.yielded) c.in-Some.held c.loop-held.invariant.2 turn.0 turn.1)
          c.loop-held.invariant.3 c.in_ok-write_line.ensures,
    )

pub returns-in_err-write_line : goal.returns-in_err-write_line
returns-in_err-write_line g c =
    let all = contents_at (raw_of c.args.leaf) (g.T.RangeTable.pairs c.args.table.now) in
    let turn =
    yields_turn (λ (it : ChainIter g.row.T.Denot g.row.T-Place.Denot g.T.RangeTable). from_place (g.T.RangeTable.chain it.table.now)
    it.next) _ _ _ c.next.new.self all c.loop-held.yielded _ c.in-Some.held c.chain_at-held-items.ensures
    c.into_iter-held-iterator.ensures.into_iter_gives c.loop-held.yielded_by c.in-Some.is c.next.ensures.steps in
    list_fault held_line all c.loop-held.count c.in-Some.held c.from_residual.result c.from_residual.ensures.0
    (counted all c.loop-held.count (length c.loop-held.yielded) c.in-Some.held c.loop-held.invariant.2 turn.0 turn.1)
    c.loop-held.invariant.3 c.in_err-write_line.ensures

pub returns : goal.returns
returns g c =
    let all = contents_at (raw_of c.args.leaf) (g.T.RangeTable.pairs c.args.table.now) in
    let end =
    yields_end (λ (it : ChainIter g.row.T.Denot g.row.T-Place.Denot g.T.RangeTable). from_place (g.T.RangeTable.chain it.table.now)
    it.next) _ _ _ c.next.new.self all c.loop-held.yielded _ c.chain_at-held-items.ensures
    c.into_iter-held-iterator.ensures.into_iter_gives c.loop-held.yielded_by c.in-None.is c.next.ensures.steps in
    list_put held_line all c.loop-held.count (c.loop-held.invariant.2 ∙ end) c.loop-held.invariant.3 c.write_end.ensures.text
