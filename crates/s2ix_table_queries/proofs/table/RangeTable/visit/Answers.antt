use Rattle.std.proofs.Common.{sym, ap}
use Rattle.s2ix_table_walk.specs.Meeting.{meeting_of}
use Rattle.s2ix_table_walk.specs.Shown.{Shown}
use Rattle.s2ix_table_walk.proofs.Visits.{may_same}
use Rattle.s2ix_table_queries.proofs.table.RangeTable.visit.Goals as goal

pub walk-requires-clause-may : goal.walk-requires-clause-may
walk-requires-clause-may g c =
    may_same (λ p x. goal.F-pre g p x) (λ p x r q. goal.F-step g p x r q) c.args.f.now _ _
    (sym (ap (λ (z : Shown g.row.Self-Place.Denot). meeting_of c.args.target.now z.pairs) c.new-meter.ensures.shown)) c.requires
