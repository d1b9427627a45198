-- One more target is answered.
use Rattle.std.proofs.Common.{◌<◌, ◌≤◌, length, arith}
use Rattle.s2ix_c_calls.specs.Each.{target_begin, target_count, target_end}
use Rattle.s2ix_c_calls.proofs.Targets.{met_more}
use Rattle.s2ix_c_calls.proofs.each.meet_each.Goals as goal

pub loop-answered-preserved : goal.loop-answered-preserved
loop-answered-preserved g c =
    let l = c.loop-answered in
    let within : l.answered < target_count c.args.bounds.now = omega arith in
    let rising : target_begin c.args.bounds.now l.answered ≤ target_end c.args.bounds.now l.answered = omega arith in
    let listed : target_end c.args.bounds.now l.answered ≤ length c.args.cells.now = omega arith in
    let has_end : l.answered < length l.ends = omega arith in
    met_more (λ cells. g.R.OfTarget.list cells c.args.store.now) c.args.cells.now c.args.bounds.now l.answered l.count l.ends l.out
    l.invariant within rising listed g.R.OfTarget.wants c.put_next-status.result c.put_next-status.new.count
    c.put_next-status.new.out c.put_next-status.auto.out has_end c.if-status-ne-DONE.false c.put_next-status.ensures
