use Rattle.std.proofs.Common.{◌-◌, List, length, ap, ◌∙◌, subst}
use Rattle.s2ix_bag_pairs.specs.declared.pair.Entry.{Entry}
use Rattle.std.specs.List.{slice_get}
use Rattle.s2ix_edit_plan.specs.State.{State, history_of}
use Rattle.s2ix_edit_plan.specs.History.{one_on}
use Rattle.s2ix_edit_store.specs.Steps.{IsShifted}
use Rattle.s2ix_edit_store.proofs.Led.{undo_taken_back}
use Rattle.s2ix_edit_store.proofs.AtCursor.{Redoes, history_redone, redoes_shifted, stands_redone}
use Rattle.s2ix_edit_store.proofs.store.Store.redo.Given.{Over}
use Rattle.s2ix_edit_store.proofs.store.Store.redo.Goals.{After-shift_last-number}
use Rattle.s2ix_edit_store.proofs.store.Store.redo.Goals as goal

shifted : (g : Over) (c : After-shift_last-number g)
    → IsShifted c.self.inside.undone.items c.self.inside.done.items c.shift_last-number.new.from.items c.shift_last-number.new.to.items
    c.shift_last-number.result
shifted g c =
    subst (λ (es : List (List Entry)). IsShifted c.self.inside.undone.items es c.shift_last-number.new.from.items c.shift_last-number.new.to.items
    c.shift_last-number.result)
    c.in_ok-make_room.ensures.unchanged c.shift_last-number.ensures

-- the store inside, with its last undone change done again
does_again : (g : Over) (c : After-shift_last-number g) → Redoes
    (record {
      bag = c.self.inside.bag;
      done = c.self.inside.done.items;
      undone = c.self.inside.undone.items;
      faces_rebuilt = c.self.inside.faces_rebuilt;
    })
    (record {
      bag = c.in_ok-bag.bag;
      done = c.shift_last-number.new.to.items;
      undone = c.shift_last-number.new.from.items;
      faces_rebuilt = c.changed_face_count-faces.result;
    })
    (shifted g c).last
does_again g c =
    redoes_shifted _ _ c.in-Some.last.now _ (shifted g c)
    (c.in-Some.ensures.value ∙ ap (λ (xs : List (List Entry)). slice_get xs (length xs - 1)) c.deref.ensures.value)
    c.in_ok-bag.ensures.made

pub invariant_of-self-2 : goal.invariant_of-self-2
invariant_of-self-2 g c = (
  stands_redone _ _ _ c.self.invariant.0 (does_again g (goal.at.invariant_of-self-2 g c).After-shift_last-number) c.in_ok-bag.ensures.within,
  c.in_ok-rebuild_for.ensures.table,
)

pub returns-clause-history : goal.returns-clause-history
returns-clause-history g c =
    history_redone _ _ _ c.self.invariant.0 (does_again g (goal.at.returns-clause-history g c).After-shift_last-number) c.in_ok-bag.ensures.within
    ∙ ap (λ (s : State). one_on (history_of s)) c.self.view_is

pub returns-clause-restores : goal.returns-clause-restores
returns-clause-restores g c =
    λ s st some is. undo_taken_back s _ _ _ st some (c.self.view_is ∙ is) (does_again g (goal.at.returns-clause-restores g c).After-shift_last-number)
