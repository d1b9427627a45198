-- The pair of this turn is written after those before it, or a fault ends it.
use Rattle.std.proofs.Common.{List, ℕ, length, ◌∷◌, Ok, Err, subst, append-nil}
use Rattle.s2ix_table_walk.specs.Places.{from_place}
use Rattle.s2ix_table_walk.specs.Table.{range_at}
use Rattle.s2ix_table_queries.specs.declared.iter.ChainIter.{ChainIter}
use Rattle.s2ix_table_queries.proofs.Yielding.{yields_turn, yields_end}
use Rattle.s2ix_text_parts.specs.Puts.{Writes}
use Rattle.s2ix_text_write.specs.Lists.{pair_text}
use Rattle.s2ix_cli_answers.specs.Ranges.{spaced_pair}
use Rattle.s2ix_text_parts.proofs.Writing.{Writes-all, Writes-fault, Writes-turn, Writes-turn_fault}
use Rattle.s2ix_cli_answers.proofs.ranges.write_range_pairs.Goals as goal

pub loop-held-preserved : goal.loop-held-preserved
unfolding spaced_pair
loop-held-preserved g c =
    let all = (range_at (g.T.RangeTable.ranges c.args.table.now) c.args.k).contents in
    let turn =
    yields_turn (λ (it : ChainIter g.row.T.Denot g.row.T-Place.Denot g.T.RangeTable). from_place (g.T.RangeTable.chain it.table.now)
    it.next) _ _ _ c.next.new.self all c.loop-held.yielded _ c.in-Some.held c.contents-held-items.ensures
    c.into_iter-held-iterator.ensures.into_iter_gives c.loop-held.yielded_by c.in-Some.is c.next.ensures.steps in
    let WritesPair : List ℕ → Type 0 =
    λ text. Writes {A = Unit {0}} g.K.Sink c.loop-held.sink c.write_pair_between.new.sink (Ok tt) (32 ∷ text) in (
      tt,
      tt,
      Writes-turn spaced_pair all c.loop-held.yielded c.in-Some.held turn c.loop-held.invariant.2
          (subst WritesPair (append-nil (pair_text c.in-Some.held)) c.in_ok-write_pair_between.ensures),
    )

pub returns-in_err-write_pair_between : goal.returns-in_err-write_pair_between
unfolding spaced_pair
returns-in_err-write_pair_between g c =
    let all = (range_at (g.T.RangeTable.ranges c.args.table.now) c.args.k).contents in
    let turn =
    yields_turn (λ (it : ChainIter g.row.T.Denot g.row.T-Place.Denot g.T.RangeTable). from_place (g.T.RangeTable.chain it.table.now)
    it.next) _ _ _ c.next.new.self all c.loop-held.yielded _ c.in-Some.held c.contents-held-items.ensures
    c.into_iter-held-iterator.ensures.into_iter_gives c.loop-held.yielded_by c.in-Some.is c.next.ensures.steps in
    let WritesPair : List ℕ → Type 0 =
    λ text. Writes {A = Unit {0}} g.K.Sink c.loop-held.sink c.write_pair_between.new.sink (Err (record {})) (32 ∷ text) in
    Writes-fault _ c.from_residual.ensures.0
    (Writes-turn_fault spaced_pair all c.loop-held.yielded c.in-Some.held turn c.loop-held.invariant.2
    (subst WritesPair (append-nil (pair_text c.in-Some.held)) c.in_err-write_pair_between.ensures))

pub returns : goal.returns
returns g c =
    let all = (range_at (g.T.RangeTable.ranges c.args.table.now) c.args.k).contents in
    let end =
    yields_end (λ (it : ChainIter g.row.T.Denot g.row.T-Place.Denot g.T.RangeTable). from_place (g.T.RangeTable.chain it.table.now)
    it.next) _ _ _ c.next.new.self all c.loop-held.yielded _ c.contents-held-items.ensures
    c.into_iter-held-iterator.ensures.into_iter_gives c.loop-held.yielded_by c.in-None.is c.next.ensures.steps in
    Writes-all spaced_pair all (length c.loop-held.yielded) end c.loop-held.invariant.2
