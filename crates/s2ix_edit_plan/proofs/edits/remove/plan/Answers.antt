use Rattle.std.proofs.Common.{arith}
use Rattle.s2ix_edit_plan.proofs.Plans.{remove_plans}
use Rattle.s2ix_edit_plan.proofs.edits.remove.plan.Goals as goal

pub returns-clause-plan : goal.returns-clause-plan
returns-clause-plan c =
    λ changes.
    remove_plans c.args.bag.now changes c.args.pair c.args.copies _ _ _ c.count-before.ensures.within c.count-before.ensures.count
    (omega (arith, c.in-Some.ensures)) (omega (arith, c.in-Some.ensures)) c.in_ok-one_pair.ensures.change
