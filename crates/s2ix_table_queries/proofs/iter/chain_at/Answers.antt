use Rattle.s2ix_table_queries.specs.declared.iter.ChainIter.{ChainIter}
use Rattle.s2ix_table_walk.specs.Places.{from_place}
use Rattle.s2ix_table_queries.proofs.Yielding.{yields_rest}
use Rattle.s2ix_table_queries.proofs.iter.chain_at.Goals as goal

pub returns : goal.returns
returns g c =
    yields_rest
    (λ (it : ChainIter g.row.T.Denot g.row.T-Place.Denot g.T.RangeTable). from_place (g.T.RangeTable.chain it.table.now) it.next) _ _
    c.first_over-next.ensures.pairs_are
