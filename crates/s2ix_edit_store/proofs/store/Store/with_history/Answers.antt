use Rattle.std.proofs.Common.{List, All, None, ◌≡◌, sym, subst}
use Rattle.s2ix_bag_pairs.specs.declared.pair.Entry.{Entry}
use Rattle.s2ix_bag_pairs.specs.Change.{IsChangeList}
use Rattle.s2ix_bag_pairs.specs.Collection.{LimitedCollection, IsBag}
use Rattle.s2ix_edit_store.specs.Given.{history_refusal}
use Rattle.s2ix_edit_store.specs.Store.{IsStore}
use Rattle.s2ix_edit_store.proofs.Histories.{stands_led}
use Rattle.s2ix_edit_store.proofs.store.Store.with_history.Goals as goal

pub invariant_of-result : goal.invariant_of-result
invariant_of-result g c =
    let Fits : LimitedCollection → Type 0 = λ bag. IsBag bag in
    let Rise : List (List Entry) → Type 0 = λ ess. All IsChangeList ess in
    let Taken : List (List Entry) → Type 0 = λ ess. history_refusal c.args.bag ess ≡ None in
    let Stands : List (List Entry) → Type 0 =
    λ undone. IsStore (record { bag = c.args.bag; done = c.args.changes.items; undone = undone; faces_rebuilt = 0 }) in
    let same = c.as_slice.ensures.value in
    let tested = c.in_ok-test_history.ensures in (
      subst Stands (sym c.new.ensures.items)
          (stands_led c.args.bag c.args.changes.items (subst Fits c.bag.view_is c.bag.invariant) (subst Rise same tested.rise)
          (subst Taken same tested.accepted)),
      c.in_ok-table.ensures,
    )
