use Rattle.std.proofs.Common.{◌≡◌, subst, arith}
use Rattle.std.proofs.lemmas.Grind.{common_steps}
use Rattle.s2ix_edit_plan.specs.State.{State}
use Rattle.s2ix_edit_store.specs.Store.{IsStore}
use Rattle.s2ix_edit_store.specs.Steps.{after_record}
use Rattle.s2ix_edit_store.proofs.AtCursor.{stands_recorded}
use Rattle.s2ix_edit_store.proofs.store.Store.go_to.Given.{Over}
use Rattle.s2ix_edit_store.proofs.store.Store.go_to.Goals.{After-clear}
use Rattle.s2ix_edit_store.proofs.store.Store.go_to.Goals as goal

is_recorded : (g : Over) (c : After-clear g) →
    record {
      bag = c.args.bag;
      done = c.push_reserved.new.self.items;
      undone = c.clear.new.self.items;
      faces_rebuilt = c.changed_face_count-faces.result;
    }
    ≡ after_record c.args.self.now c.args.change
is_recorded g c = grind (arith, common_steps)

stood : (g : Over) (c : After-clear g) → IsStore c.args.self.now
stood g c = let Stands : State → Type 0 = λ s. IsStore s in subst Stands c.self.view_is c.self.invariant.0

pub invariant_of-self-2 : goal.invariant_of-self-2
invariant_of-self-2 g c =
    let d = (goal.at.invariant_of-self-2 g c).After-clear in (
      stands_recorded c.args.self.now _ c.args.change (is_recorded g d) (stood g d) c.requires.room c.entries-number.ensures.rises
          c.requires.some c.requires.fits c.requires.within,
      c.in_ok-rebuild_for.ensures.table,
    )
