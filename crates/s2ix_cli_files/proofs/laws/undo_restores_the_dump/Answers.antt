use Rattle.std.proofs.Common.{ap}
use Rattle.s2ix_edit_plan.specs.State.{State}
use Rattle.s2ix_edit_store.proofs.Undone.{undo_of_edit}
use Rattle.s2ix_text_write.specs.Dump.{dump_text}
use Rattle.s2ix_cli_files.proofs.laws.undo_restores_the_dump.Goals as goal

pub returns : goal.returns
returns c = λ s edit st. ap (λ (t : State). dump_text t.bag.held) (undo_of_edit s edit st)
