use Rattle.std.proofs.Common.{◌∙◌, refl}
use Rattle.s2ix_table_queries.proofs.Stretching.{near_is, sampled}
use Rattle.s2ix_table_queries.proofs.meter.MeterReader.sampled_start.Goals as goal

pub returns-then-own-self-clause-start : goal.returns-then-own-self-clause-start
returns-then-own-self-clause-start g c =
    let m = c.args.self.now in
    let own = sampled _ _ _ _ m.sample_is c.if-own.true c.if-own-self.true in
    own.1
    ∙ (near_is (g.T.RangeTable.pairs m.table.now) (g.T.RangeTable.ranges m.table.now) m.near.first m.near.count m.near.starts.now c.args.k _
    (g.met.T.RangeTable.is_table m.table.now) m.near_is c.ranges.k.fits refl own.0).start
