-- The pairs over a range are those over its first leaf, and a collection is at least as long.
use Rattle.std.proofs.Common.{◌≡◌, sym, subst, ap, ◌∙◌, ◌≤◌, List, length, arith}
use Rattle.s2ix_bag_pairs.specs.declared.pair.Held.{Held}
use Rattle.s2ix_table_walk.specs.Walking.{front_from}
use Rattle.s2ix_c_calls.proofs.Begun.{in_range_at_most, front_of_range}
use Rattle.s2ix_c_calls.proofs.chains.first_in.Goals as goal

pub returns-clause-begun : goal.returns-clause-begun
returns-clause-begun g c = λ from.
    ap (front_from from) c.first.ensures.pairs_are ∙ front_of_range _ _ c.args.place from (g.met.T.RangeTable.is_table c.args.table.now) c.requires

pub returns-clause-within_limit : goal.returns-clause-within_limit
returns-clause-within_limit g c =
    let t = c.args.table.now in
    let within = in_range_at_most (g.T.RangeTable.pairs t) (g.T.RangeTable.ranges t) c.args.place (g.met.T.RangeTable.is_table t) c.requires in
    let limit = g.met.T.RangeTable.within_limit t in
    subst (λ (l : List Held). length l ≤ 1000000) (sym c.first.ensures.pairs_are) (omega arith)
