use Rattle.std.proofs.Common.{ap}
use Rattle.s2ix_edit_plan.specs.State.{State}
use Rattle.s2ix_edit_store.proofs.Undone.{undo_of_edit}
use Rattle.s2ix_edit_store.proofs.laws.undo_takes_edit_back.Goals as goal

pub returns-clause-bag : goal.returns-clause-bag
returns-clause-bag c = λ s edit st. ap (λ (t : State). t.bag) (undo_of_edit s edit st)

pub returns-clause-done : goal.returns-clause-done
returns-clause-done c = λ s edit st. ap (λ (t : State). t.done) (undo_of_edit s edit st)

pub returns-clause-undone : goal.returns-clause-undone
returns-clause-undone c = λ s edit st. ap (λ (t : State). t.undone) (undo_of_edit s edit st)
