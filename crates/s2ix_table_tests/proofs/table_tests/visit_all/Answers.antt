use Rattle.s2ix_table_walk.proofs.Visits.{may_always}
use Rattle.s2ix_table_tests.proofs.table_tests.visit_all.Goals as goal

pub visit_counted-requires : goal.visit_counted-requires
visit_counted-requires g c = may_always (λ p x. goal.F-pre g p x) (λ p x r q. goal.F-step g p x r q) c.args.f.now _ c.requires
