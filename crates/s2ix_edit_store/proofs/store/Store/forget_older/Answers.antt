use Rattle.std.proofs.Common.{◌≡◌, List, sym, ap, ◌∙◌, subst}
use Rattle.s2ix_bag_pairs.specs.declared.pair.Entry.{Entry}
use Rattle.s2ix_edit_plan.specs.State.{State, history_of}
use Rattle.s2ix_edit_store.specs.Steps.{after_forget_older}
use Rattle.s2ix_edit_store.specs.Store.{IsStore}
use Rattle.s2ix_edit_store.proofs.Shortened.{forget_older_keeps, history_after_forget_older}
use Rattle.s2ix_edit_store.proofs.store.Store.forget_older.Given.{Over}
use Rattle.s2ix_edit_store.proofs.store.Store.forget_older.Goals.{After-keep_newest}
use Rattle.s2ix_edit_store.proofs.store.Store.forget_older.Goals as goal

-- the store inside, with the changes that are left
shortened : (g : Over) (c : After-keep_newest g) → ◌≡◌ {A = State}
    (record {
      bag = c.self.inside.bag;
      done = c.keep_newest.new.changes.items;
      undone = c.self.inside.undone.items;
      faces_rebuilt = c.self.inside.faces_rebuilt;
    })
    (after_forget_older c.args.self.now c.args.newest)
shortened g c =
    ap (λ (ess : List (List Entry)).
    let t : State =
    record { bag = c.self.inside.bag; done = ess; undone = c.self.inside.undone.items; faces_rebuilt = c.self.inside.faces_rebuilt } in
    t)
    c.keep_newest.ensures
    ∙ ap (λ (s : State). after_forget_older s c.args.newest) c.self.view_is

stood : (g : Over) (c : After-keep_newest g) → IsStore c.args.self.now
stood g c = let Stands : State → Type 0 = λ s. IsStore s in subst Stands c.self.view_is c.self.invariant.0

pub invariant_of-self : goal.invariant_of-self
invariant_of-self g c =
    let Stands : State → Type 0 = λ s. IsStore s in
    (subst Stands (sym (shortened g c)) (forget_older_keeps c.args.self.now c.args.newest (stood g c)), c.self.invariant.1)

pub returns-clause-history : goal.returns-clause-history
returns-clause-history g c = ap history_of (shortened g c) ∙ history_after_forget_older c.args.self.now c.args.newest
