-- So many targets are answered.
use Rattle.std.proofs.Common.{◌-◌}
use Rattle.s2ix_c_calls.specs.Each.{target_count}
use Rattle.s2ix_c_calls.proofs.Targets.{HasMet}
use Rattle.s2ix_c_calls.proofs.each.meet_each.Given as goal

abbrev pub invariant-loop-answered : goal.invariant-loop-answered
invariant-loop-answered g l = HasMet (λ cells. g.R.OfTarget.list cells l.store) l.cells l.bounds l.answered l.count l.ends l.out

abbrev pub decreases-loop-answered : goal.decreases-loop-answered
decreases-loop-answered g l = target_count l.bounds - l.answered
