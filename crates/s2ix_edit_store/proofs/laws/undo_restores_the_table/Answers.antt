use Rattle.std.proofs.Common.{ap}
use Rattle.s2ix_edit_plan.specs.State.{State}
use Rattle.s2ix_edit_store.specs.Steps.{after_edit, after_undo}
use Rattle.s2ix_edit_store.proofs.Led.{same_tables}
use Rattle.s2ix_edit_store.proofs.Undone.{undo_of_edit}
use Rattle.s2ix_edit_store.proofs.laws.undo_restores_the_table.Goals as goal

pub returns : goal.returns
returns c =
    λ s edit before after st was is.
    same_tables s.bag (after_undo (after_edit s edit)).bag before after (ap (λ (t : State). t.bag) (undo_of_edit s edit st)) was is
