use Rattle.std.proofs.Common.{◌≡◌, ◌<◌, ◌==◌, List, length, None, sym, ap, ◌∙◌, subst, arith}
use Rattle.std.specs.Option.{option_map}
use Rattle.std.proofs.lemmas.Result.{err_from_is_err_and}
use Rattle.s2ix_bag_lists.specs.Apply.{apply_refusal, IsApplyRefusal}
use Rattle.s2ix_bag_pairs.specs.declared.pair.Entry.{Entry}
use Rattle.s2ix_bag_pairs.specs.Limits.{changes_limit}
use Rattle.s2ix_edit_plan.specs.State.{State, history_of}
use Rattle.s2ix_edit_store.specs.OneChange.{IsRecordRefusal, change_refusal, record_error}
use Rattle.s2ix_edit_store.specs.declared.record_error.RecordError.{RecordError}
use Rattle.s2ix_edit_store.specs.Store.{IsStore}
use Rattle.s2ix_edit_store.proofs.Offered.{bag_error, has_some, history_recorded, refused_by_bag}
use Rattle.s2ix_edit_store.proofs.store.Store.record.Given.{Over}
use Rattle.s2ix_edit_store.proofs.store.Store.record.Goals.{After-applied}
use Rattle.s2ix_edit_store.proofs.store.Store.record.Goals as goal

stood : (g : Over) (c : After-applied g) → IsStore c.args.self.now
stood g c = let Stands : State → Type 0 = λ s. IsStore s in subst Stands c.self.view_is c.self.invariant.0

room : (g : Over) (c : After-applied g) → length c.args.self.now.done < changes_limit c.args.self.now.bag.limits
room g c =
    let HasRoom : State → Type 0 = λ s. length s.done < changes_limit s.bag.limits in
    let limit = c.changes-changes_limit.ensures ∙ ap changes_limit c.limits.ensures in
    subst HasRoom c.self.view_is (omega (arith, limit))

some : (g : Over) (c : After-applied g) → 0 < length c.args.change
some g c =
    has_some c.args.change
    (ap (λ (es : List Entry). length es == 0) (sym c.entries.ensures.list) ∙ sym c.is_empty.ensures ∙ c.if-is_empty.false)

pub returns-in_err-next-clause-refused : goal.returns-in_err-next-clause-refused
returns-in_err-next-clause-refused g c =
    let a = (goal.at-returns-in_err-next-clause-refused g c).After-applied in
    let p = err_from_is_err_and c.from_residual.result c.from_residual.ensures.1 in
    let Refused : RecordError → Type 0 = λ error. IsRecordRefusal error (change_refusal c.args.self.now c.args.change) in
    let Told : State → Type 0 = λ s. IsApplyRefusal c.in_err-next.field-0.0 (apply_refusal s.bag c.args.change) in
    rw (p.1) (subst Refused (sym p.2)
    (bag_error c.args.self.now c.args.change c.in_err-next.field-0.0 (room g a) (some g a) (subst Told c.self.view_is c.in_err-next.ensures.refused)))

taken : (g : Over) (c : After-applied g) → change_refusal c.args.self.now c.args.change ≡ option_map record_error (apply_refusal c.args.self.now.bag c.args.change)
taken g c = refused_by_bag c.args.self.now c.args.change (room g c) (some g c)

pub returns-clause-accepted : goal.returns-clause-accepted
returns-clause-accepted g c =
    let a = (goal.at-returns-clause-accepted g c).After-applied in
    let Taken : State → Type 0 = λ s. apply_refusal s.bag c.args.change ≡ None in
    taken g a ∙ ap (option_map record_error) (subst Taken c.self.view_is c.in_ok-next.ensures.accepted)

pub returns-clause-history : goal.returns-clause-history
returns-clause-history g c =
    let a = (goal.at-returns-clause-history g c).After-applied in
    let Taken : State → Type 0 = λ s. apply_refusal s.bag c.args.change ≡ None in
    ap history_of c.in_ok-go_to.ensures.state
    ∙ history_recorded c.args.self.now c.args.change (stood g a) c.entries.ensures.rises
    (subst Taken c.self.view_is c.in_ok-next.ensures.accepted)
