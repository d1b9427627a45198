-- The limits are those that the three numbers made.
use Rattle.std.proofs.Common.{◌∙◌, ap, Some}
use Rattle.s2ix_edit_plan.specs.State.{State}
use Rattle.s2ix_c.proofs.handles.s2ix_open.Goals as goal

pub returns-clause-opened : goal.returns-clause-opened
returns-clause-opened c = λ is_done. (
  c.in-Some.limits,
  c.in-Some.ensures.pairs,
  c.in-Some.ensures.count,
  c.in-Some.ensures.changes,
  c.keep.ensures.kept is_done ∙ ap (λ (s : State). Some s) c.in-Ok.ensures.state,
)
