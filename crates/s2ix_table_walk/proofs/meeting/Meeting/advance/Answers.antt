use Rattle.std.proofs.Common.{◌≤◌, IfSome, sym, subst, rules}
use Rattle.s2ix_table_walk.specs.Meeting.{first_shared}
use Rattle.s2ix_table_walk.specs.Costs.{ranges_met_by}
use Rattle.s2ix_table_walk.specs.Shown.{Shown}
use Rattle.s2ix_table_walk.specs.Walking.{IsWalk, HasPaid}
use Rattle.s2ix_table_walk.proofs.GivenPairs.{next_reads}
use Rattle.s2ix_table_walk.proofs.Paying.{next_pays, paid_costs, passed_costs}
use Rattle.s2ix_table_walk.proofs.meeting.Meeting.advance.Goals as goal

pub invariant_of-self-clause-walks : goal.invariant_of-self-clause-walks
invariant_of-self-clause-walks g c =
    subst (λ (z : Shown g.row.R-Place.Denot). IsWalk z c.args.self.now.cells.now c.next_met.new.walk) (sym c.next_met.ensures.same)
    c.next_met.ensures.walk

pub invariant_of-self-clause-paid : goal.invariant_of-self-clause-paid
invariant_of-self-clause-paid g c =
    let s = g.R.Reader.shown c.args.self.now.reader.now in
    subst (λ (z : Shown g.row.R-Place.Denot).
    HasPaid z c.args.self.now.cells.now c.next_met.new.walk (g.R.Reader.spent c.next_met.new.reader))
    (sym c.next_met.ensures.same)
    (next_pays s c.args.self.now.cells.now c.args.self.now.walk c.next_met.new.walk _ _ c.next_met.result
    (g.met.R.Reader.is_shown c.args.self.now.reader.now) c.next_met.ensures.ends c.next_met.ensures.gives c.next_met.ensures.paid
    c.args.self.now.paid)

pub returns-clause-least_probes : goal.returns-clause-least_probes
returns-clause-least_probes g c =
    let old = c.args.self.now in
    let next = c.next_met.new in
    let s = g.R.Reader.shown old.reader.now in
    subst (λ (z : Shown g.row.R-Place.Denot).
    IfSome c.next_met.result
    (λ held. ranges_met_by old.cells.now z.ranges (first_shared old.cells.now held.pair.cell) ≤ (g.R.Reader.spent next.reader).probes))
    (sym c.next_met.ensures.same)
    (next_reads s old.cells.now old.walk next.walk _ _ c.next_met.result c.next_met.ensures.walk c.next_met.ensures.gives old.paid
    (next_pays s old.cells.now old.walk next.walk _ _ c.next_met.result (g.met.R.Reader.is_shown old.reader.now) c.next_met.ensures.ends
    c.next_met.ensures.gives c.next_met.ensures.paid old.paid))

pub returns-clause-whole_probes : goal.returns-clause-whole_probes
returns-clause-whole_probes g c none =
    let cells = c.args.self.now.cells.now in
    let next = c.next_met.new in
    let paid : HasPaid (g.R.Reader.shown next.reader) cells next.walk (g.R.Reader.spent next.reader) = search rules in
    passed_costs (g.R.Reader.shown next.reader) cells next.walk _ _ (c.next_met.ensures.passed none) paid.paid

pub returns-clause-cost : goal.returns-clause-cost
returns-clause-cost g c =
    let cells = c.args.self.now.cells.now in
    let next = c.next_met.new in
    let walks : IsWalk (g.R.Reader.shown next.reader) cells next.walk = search rules in
    let paid : HasPaid (g.R.Reader.shown next.reader) cells next.walk (g.R.Reader.spent next.reader) = search rules in
    paid_costs (g.R.Reader.shown next.reader) cells next.walk _ walks paid
