use Rattle.std.proofs.Common.{◌≡◌, ℕ, ◌-◌, ◌<◌, ◌≤◌, length, sym, ap, ◌∙◌, subst, arith}
use Rattle.s2ix_edit_plan.specs.State.{State, history_of}
use Rattle.s2ix_edit_store.specs.Shortened.{with_joined}
use Rattle.s2ix_edit_store.specs.Steps.{after_join, joined_last}
use Rattle.s2ix_edit_store.specs.Store.{IsStore}
use Rattle.s2ix_edit_store.proofs.Joined.{history_after_join, join_keeps, last_has_place, replaces_last}
use Rattle.s2ix_edit_store.proofs.Joins.{few_sized, few_stay, joins_last, last_some}
use Rattle.s2ix_edit_store.proofs.store.Store.join.Given.{Over}
use Rattle.s2ix_edit_store.proofs.store.Store.join.Goals.{After-replace_from}
use Rattle.s2ix_edit_store.proofs.store.Store.join.Goals as goal

-- ---- at most one change

few_returned : (s t : State) (last : ℕ) → IsStore s → s ≡ t → last < 2 → last ≤ length s.done
    → (t ≡ after_join t last) × (history_of t ≡ with_joined last (history_of t))
few_returned s t last st is within_limit within =
    let Stands : State → Type 0 = λ x. IsStore x in
    let Within : State → Type 0 = λ x. last ≤ length x.done in
    let t_is = subst Stands is st in
    let stays = sym (few_stay t last t_is (omega (arith, within_limit)) (subst Within is within)) in (
      stays,
      ap history_of stays ∙ history_after_join t last t_is,
    )

pub returns-then-last-lt2-clause-state : goal.returns-then-last-lt2-clause-state
returns-then-last-lt2-clause-state g c =
    let many : c.len-number.result ≡ length c.self.inside.done.items = omega (arith, c.len-number.ensures, c.self.inside.done.ok.0) in
    (few_returned _ _ c.args.last c.self.invariant.0 c.self.view_is (omega arith) (omega (arith, many))).0

pub returns-then-last-lt2-clause-history : goal.returns-then-last-lt2-clause-history
returns-then-last-lt2-clause-history g c =
    let many : c.len-number.result ≡ length c.self.inside.done.items = omega (arith, c.len-number.ensures, c.self.inside.done.ok.0) in
    (few_returned _ _ c.args.last c.self.invariant.0 c.self.view_is (omega arith) (omega (arith, many))).1

pub returns-then-last-lt2-clause-number : goal.returns-then-last-lt2-clause-number
returns-then-last-lt2-clause-number g c =
    let many : c.len-number.result ≡ length c.self.inside.done.items = omega (arith, c.len-number.ensures, c.self.inside.done.ok.0) in
    few_sized _ c.deref.result.now c.len-number.result c.args.last c.first_size.result c.self.invariant.0 c.deref.ensures.value many
    (omega arith) (omega (arith, many)) c.first_size.ensures
    ∙ ap (λ (s : State). length (joined_last s c.args.last)) c.self.view_is

-- ---- more changes

pub joined_change-requires : goal.joined_change-requires
joined_change-requires g c =
    let many : c.len-number.result ≡ length c.self.inside.done.items = omega (arith, c.len-number.ensures, c.self.inside.done.ok.0) in
    record {
      some = last_some _ c.deref-2.result.now c.len-number.result c.args.last c.deref-2.ensures.value many (omega arith) (omega arith);
    }

pub replace_from-requires : goal.replace_from-requires
replace_from-requires g c =
    let inside : State =
    record {
      bag = c.self.inside.bag;
      done = c.self.inside.done.items;
      undone = c.self.inside.undone.items;
      faces_rebuilt = c.self.inside.faces_rebuilt;
    } in
    let many : c.len-number.result ≡ length c.self.inside.done.items = omega (arith, c.len-number.ensures, c.self.inside.done.ok.0) in
    let joins =
    joins_last inside c.deref-2.result.now c.len-number.result c.args.last c.in_ok-change.change c.self.invariant.0 c.deref-2.ensures.value many
    c.in_ok-change.ensures in
    record {
      some = λ some.
          let place : c.len-number.result - c.args.last < length c.self.inside.done.items =
          last_has_place inside c.len-number.result c.args.last c.in_ok-change.change c.self.invariant.0 many joins some in
          omega (arith, place, c.self.inside.done.ok.0);
    }

-- the store inside, before it and after it
abbrev inside : (g : Over) → After-replace_from g → State
inside g c = record {
  bag = c.self.inside.bag;
  done = c.self.inside.done.items;
  undone = c.self.inside.undone.items;
  faces_rebuilt = c.self.inside.faces_rebuilt;
}

many : (g : Over) (c : After-replace_from g) → c.len-number.result ≡ length c.self.inside.done.items
many g c = omega (arith, c.len-number.ensures, c.self.inside.done.ok.0)

joins : (g : Over) (c : After-replace_from g) → c.in_ok-change.change ≡ joined_last (inside g c) c.args.last
joins g c =
    joins_last (inside g c) c.deref-2.result.now c.len-number.result c.args.last c.in_ok-change.change c.self.invariant.0 c.deref-2.ensures.value (many g c)
    c.in_ok-change.ensures

after : (g : Over) (c : After-replace_from g) → ◌≡◌ {A = State}
    (record {
      bag = c.self.inside.bag;
      done = c.replace_from.new.changes.items;
      undone = c.self.inside.undone.items;
      faces_rebuilt = c.self.inside.faces_rebuilt;
    })
    (after_join (inside g c) c.args.last)
after g c =
    replaces_last (inside g c) c.len-number.result c.args.last c.in_ok-change.change c.replace_from.new.changes.items (many g c) (joins g c)
    c.replace_from.ensures

pub invariant_of-self : goal.invariant_of-self
invariant_of-self g c =
    let d = (goal.at-invariant_of-self g c).After-replace_from in
    let Stands : State → Type 0 = λ s. IsStore s in
    (subst Stands (sym (after g d)) (join_keeps (inside g d) c.args.last c.self.invariant.0), c.self.invariant.1)

pub returns-clause-state : goal.returns-clause-state
returns-clause-state g c =
    after g (goal.at-returns-clause-state g c).After-replace_from ∙ ap (λ (s : State). after_join s c.args.last) c.self.view_is

pub returns-clause-history : goal.returns-clause-history
returns-clause-history g c =
    let d = (goal.at-returns-clause-history g c).After-replace_from in
    ap history_of (after g d)
    ∙ history_after_join (inside g d) c.args.last c.self.invariant.0
    ∙ ap (λ (s : State). with_joined c.args.last (history_of s)) c.self.view_is

pub returns-clause-number : goal.returns-clause-number
returns-clause-number g c =
    let d = (goal.at-returns-clause-number g c).After-replace_from in
    ap length (c.entries-pairs.ensures.list ∙ joins g d ∙ ap (λ (s : State). joined_last s c.args.last) c.self.view_is)
