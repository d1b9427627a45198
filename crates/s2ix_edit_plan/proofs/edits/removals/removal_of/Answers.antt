use Rattle.std.proofs.Common.{List, Option, sym, subst}
use Rattle.s2ix_bag_pairs.specs.declared.pair.Entry.{Entry}
use Rattle.s2ix_bag_lists.specs.declared.errors.RevertError.{RevertError}
use Rattle.s2ix_bag_lists.specs.Revert.{IsRevertRefusal, revert_refusal}
use Rattle.s2ix_edit_plan.specs.Removals.{AreCopies, TakesRows}
use Rattle.s2ix_edit_plan.specs.Rows.{PlansRows}
use Rattle.s2ix_edit_plan.proofs.Removals.{lacks_rows, never_high, never_many, nothing_of, takes_rows}
use Rattle.s2ix_edit_plan.proofs.edits.removals.removal_of.Goals.{After-reverting}
use Rattle.s2ix_edit_plan.proofs.edits.removals.removal_of.Goals as goal

plans : (c : After-reverting) → PlansRows (nothing_of c.args.bag.now) c.args.rows.now c.in-Some.copies
plans c =
    let Copies : Option (List Entry) → Type 0 = λ o. AreCopies c.args.bag.now c.args.rows.now o in
    subst Copies c.in-Some.is c.in_ok-copies.ensures

pub returns-in-Ok : goal.returns-in-Ok
returns-in-Ok c =
    let a = (goal.at-returns-in-Ok c).After-reverting in
    let Takes : List Entry → Type 0 = λ es. TakesRows c.args.bag.now c.args.rows.now es in
    subst Takes (sym c.in-Ok.ensures.entries)
    (takes_rows c.args.bag.now c.args.rows.now c.in-Some.copies c.requires (plans a) c.in-Ok.ensures.accepted)

pub returns-in-Err-BelowZero : goal.returns-in-Err-BelowZero
returns-in-Err-BelowZero c =
    let a = (goal.at-returns-in-Err-BelowZero c).After-reverting in
    let Told : RevertError → Type 0 = λ error. IsRevertRefusal error (revert_refusal c.args.bag.now c.in-Some.copies) in
    lacks_rows c.args.bag.now c.args.rows.now c.in-Some.copies c.in-Err-BelowZero.field-0-0 c.requires (plans a)
    (subst Told c.in-Err-BelowZero.field-0-is c.in-Err-BelowZero.ensures.refused)

pub unreachable-requires : goal.unreachable-requires
unreachable-requires c =
    let a = (goal.at-unreachable-requires c).After-reverting in
    let Told : RevertError → Type 0 = λ error. IsRevertRefusal error (revert_refusal c.args.bag.now c.in-Some.copies) in
    never_high c.args.bag.now c.args.rows.now c.in-Some.copies c.requires (plans a)
    (subst Told c.in-Err-TooManyCopies.field-0-is c.in-Err-TooManyCopies.ensures.refused)

pub unreachable-requires-in-Err-TooManyPairs : goal.unreachable-requires-in-Err-TooManyPairs
unreachable-requires-in-Err-TooManyPairs c =
    let a = (goal.at-unreachable-requires-in-Err-TooManyPairs c).After-reverting in
    let Told : RevertError → Type 0 = λ error. IsRevertRefusal error (revert_refusal c.args.bag.now c.in-Some.copies) in
    never_many c.args.bag.now c.args.rows.now c.in-Some.copies c.requires (plans a)
    (subst Told c.in-Err-TooManyPairs.field-0-is c.in-Err-TooManyPairs.ensures.refused)
