use Rattle.std.proofs.Common.{List, Option, sym, subst, ◌∙◌}
use Rattle.std.proofs.lemmas.Bool.{eqb-false, eqb-true}
use Rattle.s2ix_bag_pairs.specs.declared.pair.Entry.{Entry}
use Rattle.s2ix_bag_pairs.specs.Collection.{copies_in}
use Rattle.s2ix_edit_plan.specs.Removals.{IsRemoval}
use Rattle.s2ix_edit_plan.proofs.Removals.{refused_for_none, some_removed}
use Rattle.s2ix_edit_plan.proofs.edits.removals.plan_removals.Goals as goal

pub returns-then-have_no_copies-clause-refused : goal.returns-then-have_no_copies-clause-refused
returns-then-have_no_copies-clause-refused c =
    refused_for_none c.args.bag.now.held c.args.rows.now c.have_no_copies.ensures.within.rises
    (eqb-true (copies_in c.args.rows.now) 0 (sym c.have_no_copies.ensures.copies ∙ c.if-have_no_copies.true))

pub returns-in-Some-clause-some : goal.returns-in-Some-clause-some
returns-in-Some-clause-some c =
    let Found : Option (List Entry) → Type 0 = λ o. IsRemoval c.args.bag.now c.args.rows.now o in
    some_removed c.args.bag.now c.args.rows.now c.in-Some.change c.have_no_copies.ensures.within
    (subst Found c.in-Some.is c.in_ok-change.ensures)
    (eqb-false (copies_in c.args.rows.now) 0 (sym c.have_no_copies.ensures.copies ∙ c.if-have_no_copies.false))
