-- The limits are those that the three numbers made, and where the texts lead or what is refused in them is told of the texts.
use Rattle.std.proofs.Common.{ap, rules, sym, subst}
use Rattle.s2ix_text.specs.declared.dump_error.DumpError.TheVariants.{OutOfMemory}
use Rattle.s2ix_text.specs.DumpFaults.{IsDumpError}
use Rattle.s2ix_c_calls.specs.declared.replaying.LedError.TheVariants.{Dump}
use Rattle.s2ix_c_calls.specs.Replaying.{refused_at}
use Rattle.s2ix_c.proofs.replaying.open_led.Goals as goal

pub returns-in-Ok-clause-led : goal.returns-in-Ok-clause-led
returns-in-Ok-clause-led c = λ is_done. (
  c.in-Some.limits,
  c.in-Some.ensures.pairs,
  c.in-Some.ensures.count,
  c.in-Some.ensures.changes,
  (c.in-Ok.bag, c.in-Ok.ensures.bag, c.keep_bag.ensures.kept is_done),
)

-- the store wants memory, as the reading of a dump without a fault may
pub returns-in-Ok-clause-refused : goal.returns-in-Ok-clause-refused
returns-in-Ok-clause-refused c = λ not_done not_limits. (
  c.in-Some.limits,
  c.in-Some.ensures.pairs,
  c.in-Some.ensures.count,
  c.in-Some.ensures.changes,
  (
    Dump OutOfMemory,
    subst (λ found. IsDumpError OutOfMemory found) (sym c.in-Ok.ensures.bag.0) tt,
    ap (λ status. refused_at status 0 0) (c.keep_bag.ensures.refused not_done).0,
  ),
)

pub returns-in-Err-clause-refused : goal.returns-in-Err-clause-refused
returns-in-Err-clause-refused c = λ not_done not_limits. (
  c.in-Some.limits,
  c.in-Some.ensures.pairs,
  c.in-Some.ensures.count,
  c.in-Some.ensures.changes,
  (c.in-Err.error, c.in-Err.ensures.refused, c.tell.ensures.refused),
)
