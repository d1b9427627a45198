use Rattle.std.proofs.Common.{refl}
use Rattle.s2ix_table_queries.proofs.Stretching.{near_is}
use Rattle.s2ix_table_queries.proofs.meter.MeterReader.start.Goals as goal

pub returns-then-own-self-clause-start : goal.returns-then-own-self-clause-start
returns-then-own-self-clause-start g c =
    let m = c.args.self.now in
    (near_is (g.T.RangeTable.pairs m.table.now) (g.T.RangeTable.ranges m.table.now) m.near.first m.near.count m.near.starts.now c.args.k _
    (g.met.T.RangeTable.is_table m.table.now) m.near_is c.ranges.k.fits refl c.if-own-self.true).start
