use Rattle.std.proofs.Common.{◌-◌, List, length, ap, ◌∙◌, subst}
use Rattle.s2ix_bag_pairs.specs.declared.pair.Entry.{Entry}
use Rattle.std.specs.List.{slice_get}
use Rattle.s2ix_bag_pairs.specs.Change.{changed}
use Rattle.s2ix_edit_plan.specs.State.{State, history_of}
use Rattle.s2ix_edit_plan.specs.History.{one_back}
use Rattle.s2ix_edit_store.specs.Steps.{with_held, IsShifted}
use Rattle.s2ix_edit_store.proofs.Led.{edit_taken_back}
use Rattle.s2ix_edit_store.proofs.AtCursor.{Undoes, history_undone, stands_undone, undoes_shifted}
use Rattle.s2ix_edit_store.proofs.store.Store.undo.Given.{Over}
use Rattle.s2ix_edit_store.proofs.store.Store.undo.Goals.{After-shift_last-number}
use Rattle.s2ix_edit_store.proofs.store.Store.undo.Goals as goal

shifted : (g : Over) (c : After-shift_last-number g)
    → IsShifted c.self.inside.done.items c.self.inside.undone.items c.shift_last-number.new.from.items c.shift_last-number.new.to.items
    c.shift_last-number.result
shifted g c =
    subst (λ (es : List (List Entry)). IsShifted c.self.inside.done.items es c.shift_last-number.new.from.items c.shift_last-number.new.to.items
    c.shift_last-number.result)
    c.in_ok-make_room.ensures.unchanged c.shift_last-number.ensures

-- the store inside, with its last change taken back
takes_back : (g : Over) (c : After-shift_last-number g) → Undoes
    (record {
      bag = c.self.inside.bag;
      done = c.self.inside.done.items;
      undone = c.self.inside.undone.items;
      faces_rebuilt = c.self.inside.faces_rebuilt;
    })
    (record {
      bag = c.in_ok-bag.bag;
      done = c.shift_last-number.new.from.items;
      undone = c.shift_last-number.new.to.items;
      faces_rebuilt = c.changed_face_count-faces.result;
    })
    (shifted g c).last
takes_back g c =
    let bag = c.self.inside.bag in
    undoes_shifted _ _ c.in-Some.last.now _ (shifted g c)
    (c.in-Some.ensures.value ∙ ap (λ (xs : List (List Entry)). slice_get xs (length xs - 1)) c.deref.ensures.value)
    (c.in_ok-bag.ensures.made ∙ ap (λ (es : List Entry). with_held bag (changed bag.held es)) c.in_ok-inverse.ensures)

pub invariant_of-self-2 : goal.invariant_of-self-2
invariant_of-self-2 g c = (
  stands_undone _ _ _ c.self.invariant.0 (takes_back g (goal.at.invariant_of-self-2 g c).After-shift_last-number) c.in_ok-bag.ensures.within,
  c.in_ok-rebuild_for.ensures.table,
)

pub returns-clause-history : goal.returns-clause-history
returns-clause-history g c =
    history_undone _ _ _ c.self.invariant.0 (takes_back g (goal.at.returns-clause-history g c).After-shift_last-number)
    ∙ ap (λ (s : State). one_back (history_of s)) c.self.view_is

pub returns-clause-restores : goal.returns-clause-restores
returns-clause-restores g c =
    λ s edit st is. edit_taken_back s _ _ edit _ st (c.self.view_is ∙ is) (takes_back g (goal.at.returns-clause-restores g c).After-shift_last-number)
