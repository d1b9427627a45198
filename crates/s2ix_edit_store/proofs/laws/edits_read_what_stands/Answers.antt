use Rattle.s2ix_edit_plan.proofs.Edited.{edited_held}
use Rattle.s2ix_edit_store.proofs.Planned.{stand}
use Rattle.s2ix_edit_store.proofs.laws.edits_read_what_stands.Goals as goal

pub returns : goal.returns
returns c = λ s edit st. edited_held s edit (stand s st)
