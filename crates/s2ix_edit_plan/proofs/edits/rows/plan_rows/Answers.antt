use Rattle.std.proofs.Common.{◌≡◌, List, sym, ◌∙◌, subst}
use Rattle.std.proofs.lemmas.Bool.{eqb-true}
use Rattle.std.proofs.lemmas.Result.{err_from_is_err_and}
use Rattle.s2ix_bag_pairs.specs.declared.pair.Entry.{Entry}
use Rattle.s2ix_bag_pairs.specs.declared.pair.Held.{Held}
use Rattle.s2ix_bag_pairs.specs.Collection.{copies_in}
use Rattle.s2ix_edit_plan.specs.declared.errors.EditError.TheVariants.{TooManyCopies}
use Rattle.s2ix_edit_plan.specs.Rows.{IsRowsError, PlansRows, gains_of}
use Rattle.s2ix_edit_plan.proofs.Rows.{copies_above, error_refused, gains_plan, nothing_plans}
use Rattle.s2ix_edit_plan.proofs.edits.rows.plan_rows.Goals.{In_err-entries, In_ok-entries}
use Rattle.s2ix_edit_plan.proofs.edits.rows.plan_rows.Goals as goal

pub returns-then-have_no_copies-clause-plan : goal.returns-then-have_no_copies-clause-plan
returns-then-have_no_copies-clause-plan c =
    let Planned : List Entry → Type 0 = λ es. PlansRows c.args.bag.now c.args.rows.now es in
    subst Planned (sym (c.from_vec.ensures ∙ c.new.ensures.items))
    (nothing_plans c.args.bag.now c.args.rows.now c.have_no_copies.ensures.within
    (eqb-true (copies_in c.args.rows.now) 0 (sym c.have_no_copies.ensures.copies ∙ c.if-have_no_copies.true)))

error : (c : In_err-entries) → IsRowsError c.args.bag.now.held c.in_ok-sorted.sorted.items c.in_err-entries.field-0.0
error c =
    let Failed : List Held → Type 0 = λ rows. IsRowsError c.args.bag.now.held rows c.in_err-entries.field-0.0 in
    subst Failed c.as_slice.ensures.value c.in_err-entries.ensures.refused

pub returns-in_err-entries-clause-copies : goal.returns-in_err-entries-clause-copies
returns-in_err-entries-clause-copies c =
    λ is.
    let p = err_from_is_err_and c.from_residual-in_err-entries.result c.from_residual-in_err-entries.ensures.1 in
    let both = sym p.1 ∙ is in
    let told = p.2 in
    let copies : c.in_err-entries.field-0.0 ≡ TooManyCopies = cc in
    copies_above c.args.rows.now c.in_ok-sorted.sorted.items c.args.bag.now.held c.in_err-entries.field-0.0
    c.have_no_copies.ensures.within.rises c.in_ok-sorted.ensures.same
    (error (goal.at-returns-in_err-entries-clause-copies c).In_err-entries) copies

pub returns-in_err-entries-clause-refused : goal.returns-in_err-entries-clause-refused
returns-in_err-entries-clause-refused c =
    let p = err_from_is_err_and c.from_residual-in_err-entries.result c.from_residual-in_err-entries.ensures.1 in
    rw (p.1, p.2)
    (error_refused c.args.bag.now c.args.rows.now c.in_ok-sorted.sorted.items c.in_err-entries.field-0.0 c.have_no_copies.ensures.within
    c.in_ok-sorted.ensures.same (error (goal.at-returns-in_err-entries-clause-refused c).In_err-entries))

plan : (c : In_ok-entries) → PlansRows c.args.bag.now c.args.rows.now c.in_ok-entries.entries.items
plan c =
    let Planned : List Entry → Type 0 = λ es. PlansRows c.args.bag.now c.args.rows.now es in
    let Sorted : List Held → Type 0 = λ rows. c.in_ok-entries.entries.items ≡ gains_of c.args.bag.now.held rows in
    subst Planned (sym (subst Sorted c.as_slice.ensures.value c.in_ok-entries.ensures.entries))
    (gains_plan c.args.bag.now c.args.rows.now c.in_ok-sorted.sorted.items c.have_no_copies.ensures.within c.in_ok-sorted.ensures.order
    c.in_ok-sorted.ensures.same)

pub from_vec-requires-2 : goal.from_vec-requires-2
from_vec-requires-2 c = (plan (goal.at-from_vec-requires-2 c).In_ok-entries).rises

pub returns-clause-plan : goal.returns-clause-plan
returns-clause-plan c =
    let Planned : List Entry → Type 0 = λ es. PlansRows c.args.bag.now c.args.rows.now es in
    subst Planned (sym c.from_vec-2.ensures) (plan (goal.at-returns-clause-plan c).In_ok-entries)
