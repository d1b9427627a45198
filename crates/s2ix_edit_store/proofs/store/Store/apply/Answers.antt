use Rattle.std.proofs.Common.{◌≡◌, ◌-◌, ◌<◌, ◌++◌, List, All, None, length, sym, ap, ap₂, ◌∙◌, subst, arith}
use Rattle.std.specs.Vec.{vec_len}
use Rattle.std.proofs.lemmas.Bool.{eqb-false, eqb-true}
use Rattle.s2ix_bag_pairs.specs.declared.pair.Entry.{Entry}
use Rattle.s2ix_bag_pairs.specs.Change.{IsChangeList, change_between}
use Rattle.s2ix_bag_pairs.specs.Collection.{LimitedCollection}
use Rattle.s2ix_bag_pairs.specs.Limits.{changes_limit}
use Rattle.s2ix_bag.specs.Replay.{replay_refusal, replayed}
use Rattle.s2ix_edit_plan.specs.State.{State, history_of}
use Rattle.s2ix_edit_store.specs.Given.{after_apply, apply_size, given_refusal, record_refusal, with_changes}
use Rattle.s2ix_edit_store.specs.Joining.{DoesAll}
use Rattle.s2ix_edit_store.specs.Steps.{faces_of}
use Rattle.s2ix_edit_store.specs.Store.{IsStore}
use Rattle.s2ix_edit_store.proofs.Applied.{apply_some, given_keeps, given_parts, none_sized, rebuilds}
use Rattle.s2ix_edit_store.proofs.Histories.{taken_whole}
use Rattle.s2ix_edit_store.proofs.Joins.{history_after_apply, whole_change}
use Rattle.s2ix_edit_store.proofs.store.Store.apply.Given.{Over}
use Rattle.s2ix_edit_store.proofs.store.Store.apply.Goals.{After-clear}
use Rattle.s2ix_edit_store.proofs.store.Store.apply.Goals as goal

pub returns-then-is_empty-clause-number : goal.returns-then-is_empty-clause-number
returns-then-is_empty-clause-number g c =
    let vec_none = eqb-true (vec_len c.args.changes) 0 (sym c.is_empty.ensures ∙ c.if-is_empty.true) in
    let none : length c.args.changes.items ≡ 0 = omega (arith, vec_none, c.args.changes.ok.0) in
    none_sized c.args.self.now c.args.changes.items none

pub rebuild_for-requires : goal.rebuild_for-requires
rebuild_for-requires g c =
    let Rise : List (List Entry) → Type 0 = λ ess. All IsChangeList ess in
    let Taken : List (List Entry) → Type 0 = λ ess. replay_refusal c.self.inside.bag ess ≡ None in
    let Does : List (List Entry) → Type 0 = λ ess. DoesAll ess c.in_ok-whole.whole in
    let rise = subst Rise c.as_slice.ensures.value c.in_ok-test_recordable.ensures.rise in
    let taken = subst Taken c.as_slice-2.ensures.value c.in_ok-bag.ensures.accepted in
    let bag_is = c.in_ok-bag.ensures.bag ∙ ap (replayed c.self.inside.bag) c.as_slice-2.ensures.value in
    rebuilds _ c.args.changes.items c.in_ok-bag.bag c.in_ok-whole.whole _ c.self.invariant.0 rise taken bag_is
    (whole_change c.self.inside.bag c.in_ok-bag.bag c.args.changes.items c.in_ok-whole.whole c.self.invariant.0.bag.rises rise taken bag_is
    (subst Does c.as_slice-3.ensures.value c.in_ok-whole.ensures))
    c.self.invariant.1

pub joined_change-requires : goal.joined_change-requires
joined_change-requires g c =
    let Some : List (List Entry) → Type 0 = λ ess. 0 < length ess in
    let some : length c.args.changes.items ≡ 0 → ⊥ =
    λ none.
    let vec_none : vec_len c.args.changes ≡ 0 = omega (arith, none, c.args.changes.ok.0) in
    eqb-false (vec_len c.args.changes) 0 (sym c.is_empty.ensures ∙ c.if-is_empty.false) vec_none in
    record { some = subst Some (sym c.as_slice-3.ensures.value) (omega (arith, some)) }

-- the store inside, before the changes and after them
abbrev inside : (g : Over) → After-clear g → State
inside g c = record {
  bag = c.self.inside.bag;
  done = c.self.inside.done.items;
  undone = c.self.inside.undone.items;
  faces_rebuilt = c.self.inside.faces_rebuilt;
}

bag_is : (g : Over) (c : After-clear g) → c.in_ok-bag.bag ≡ replayed c.self.inside.bag c.args.changes.items
bag_is g c = c.in_ok-bag.ensures.bag ∙ ap (replayed c.self.inside.bag) c.as_slice-2.ensures.value

rise : (g : Over) (c : After-clear g) → All IsChangeList c.args.changes.items
rise g c =
    let Rise : List (List Entry) → Type 0 = λ ess. All IsChangeList ess in
    subst Rise c.as_slice.ensures.value c.in_ok-test_recordable.ensures.rise

whole_is : (g : Over) (c : After-clear g) → c.in_ok-whole.whole ≡ change_between c.self.inside.bag.held c.in_ok-bag.bag.held
whole_is g c =
    let Taken : List (List Entry) → Type 0 = λ ess. replay_refusal c.self.inside.bag ess ≡ None in
    let Does : List (List Entry) → Type 0 = λ ess. DoesAll ess c.in_ok-whole.whole in
    whole_change c.self.inside.bag c.in_ok-bag.bag c.args.changes.items c.in_ok-whole.whole c.self.invariant.0.bag.rises (rise g c)
    (subst Taken c.as_slice-2.ensures.value c.in_ok-bag.ensures.accepted) (bag_is g c)
    (subst Does c.as_slice-3.ensures.value c.in_ok-whole.ensures)

done_is : (g : Over) (c : After-clear g) → c.append_reserved.new.to.items ≡ c.self.inside.done.items ++ c.args.changes.items
done_is g c = c.append_reserved.ensures ∙ ap (λ (ess : List (List Entry)). ess ++ c.args.changes.items) c.in_ok-make_room.ensures.unchanged

some : (g : Over) (c : After-clear g) → length c.args.changes.items ≡ 0 → ⊥
some g c =
    λ none.
    let vec_none : vec_len c.args.changes ≡ 0 = omega (arith, none, c.args.changes.ok.0) in
    eqb-false (vec_len c.args.changes) 0 (sym c.is_empty.ensures ∙ c.if-is_empty.false) vec_none

-- they are not refused
accepted : (g : Over) (c : After-clear g) → given_refusal (inside g c) c.args.changes.items ≡ None
accepted g c =
    let limit = c.changes.ensures ∙ ap changes_limit c.limits.ensures in
    let room : c.changes.result - c.len.result ≡ changes_limit c.self.inside.bag.limits - length c.self.inside.done.items =
    omega (arith, limit, c.len.ensures, c.self.inside.done.ok.0) in
    let Taken : List (List Entry) → Type 0 = λ ess. replay_refusal c.self.inside.bag ess ≡ None in
    taken_whole (record_refusal (changes_limit c.self.inside.bag.limits - length c.self.inside.done.items) c.args.changes.items)
    (replay_refusal c.self.inside.bag c.args.changes.items)
    (ap₂ record_refusal (sym room) (sym c.as_slice.ensures.value) ∙ c.in_ok-test_recordable.ensures.accepted)
    (subst Taken c.as_slice-2.ensures.value c.in_ok-bag.ensures.accepted)

pub invariant_of-self-2 : goal.invariant_of-self-2
invariant_of-self-2 g c =
    let d = (goal.at-invariant_of-self-2 g c).After-clear in
    let Stands : State → Type 0 = λ s. IsStore s in
    let parts =
    given_parts (inside g d) c.args.changes.items c.in_ok-bag.bag c.append_reserved.new.to.items c.clear.new.self.items
    c.changed_face_count-self-inside.result (bag_is g d) (done_is g d) c.clear.ensures.items
    (c.changed_face_count-self-inside.ensures ∙ ap faces_of (whole_is g d)) in (
      subst Stands (sym parts)
          (given_keeps (inside g d) c.args.changes.items c.self.invariant.0 (rise g d) (accepted g d)),
      c.in_ok-rebuild_for.ensures.table,
    )

pub returns-clause-state : goal.returns-clause-state
returns-clause-state g c =
    let d = (goal.at-returns-clause-state g c).After-clear in
    given_parts (inside g d) c.args.changes.items c.in_ok-bag.bag c.append_reserved.new.to.items c.clear.new.self.items
    c.changed_face_count-self-inside.result (bag_is g d) (done_is g d) c.clear.ensures.items
    (c.changed_face_count-self-inside.ensures ∙ ap faces_of (whole_is g d))
    ∙ apply_some (inside g d) c.args.changes.items (some g d)
    ∙ ap (λ (s : State). after_apply s c.args.changes.items) c.self.view_is

pub returns-clause-history : goal.returns-clause-history
returns-clause-history g c =
    let d = (goal.at-returns-clause-history g c).After-clear in
    ap history_of
    (given_parts (inside g d) c.args.changes.items c.in_ok-bag.bag c.append_reserved.new.to.items c.clear.new.self.items
    c.changed_face_count-self-inside.result (bag_is g d) (done_is g d) c.clear.ensures.items
    (c.changed_face_count-self-inside.ensures ∙ ap faces_of (whole_is g d))
    ∙ apply_some (inside g d) c.args.changes.items (some g d))
    ∙ history_after_apply (inside g d) c.args.changes.items c.self.invariant.0 (rise g d) (accepted g d)
    ∙ ap (λ (s : State). with_changes c.args.changes.items (history_of s)) c.self.view_is

pub returns-clause-number : goal.returns-clause-number
returns-clause-number g c =
    let d = (goal.at-returns-clause-number g c).After-clear in
    ap length
    (c.entries.ensures.list
    ∙ whole_is g d
    ∙ ap (λ (bag : LimitedCollection). change_between c.self.inside.bag.held bag.held) (bag_is g d))
    ∙ ap (λ (s : State). apply_size s c.args.changes.items) c.self.view_is
