use Rattle.std.proofs.Common.{Bool, refl, ap, ◌∙◌}
use Rattle.s2ix_edit_plan.specs.declared.edit.Edit.{Edit}
use Rattle.s2ix_edit_plan.specs.Edit.{edited_by}
use Rattle.s2ix_edit_plan.specs.Refusals.{has_count_above_every_limit, reverts}
use Rattle.s2ix_edit_plan.proofs.Plans.{asks_copies, cells_added, copies_added, copies_removed, reads_no_change}
use Rattle.s2ix_edit_plan.proofs.edits.plan.Goals as goal

pub returns-in-Add-clause-nothing : goal.returns-in-Add-clause-nothing
returns-in-Add-clause-nothing c = λ none. c.plan.ensures.nothing (copies_added _ _ _ c.in-Add.is none)

pub returns-in-AddUnion-clause-nothing : goal.returns-in-AddUnion-clause-nothing
returns-in-AddUnion-clause-nothing c = λ none. c.plan-in-AddUnion.ensures.nothing (cells_added _ _ _ c.in-AddUnion.is none)

pub returns-in-Remove-clause-nothing : goal.returns-in-Remove-clause-nothing
returns-in-Remove-clause-nothing c = λ none. c.plan-in-Remove.ensures.nothing (copies_removed _ _ _ c.in-Remove.is none)

pub returns-in-DropLabel-clause-nothing : goal.returns-in-DropLabel-clause-nothing
returns-in-DropLabel-clause-nothing c = λ none. absurd (asks_copies _ _ c.in-DropLabel.is refl none)

pub returns-in-Relabel-clause-nothing : goal.returns-in-Relabel-clause-nothing
returns-in-Relabel-clause-nothing c = λ none. absurd (asks_copies _ _ c.in-Relabel.is refl none)

pub returns-in-Grow-clause-nothing : goal.returns-in-Grow-clause-nothing
returns-in-Grow-clause-nothing c = λ none. absurd (asks_copies _ _ c.in-Grow.is refl none)

pub returns-in-Normalise-clause-nothing : goal.returns-in-Normalise-clause-nothing
returns-in-Normalise-clause-nothing c = λ none. absurd (asks_copies _ _ c.in-Normalise.is refl none)

pub returns-in-Revert-clause-nothing : goal.returns-in-Revert-clause-nothing
returns-in-Revert-clause-nothing c = λ none. absurd (asks_copies _ _ c.in-Revert.is refl none)

pub returns-in-Add-clause-reverting : goal.returns-in-Add-clause-reverting
returns-in-Add-clause-reverting c = λ takes. absurd (reads_no_change _ _ c.in-Add.is refl takes)

pub returns-in-AddUnion-clause-reverting : goal.returns-in-AddUnion-clause-reverting
returns-in-AddUnion-clause-reverting c = λ takes. absurd (reads_no_change _ _ c.in-AddUnion.is refl takes)

pub returns-in-Remove-clause-reverting : goal.returns-in-Remove-clause-reverting
returns-in-Remove-clause-reverting c = λ takes. absurd (reads_no_change _ _ c.in-Remove.is refl takes)

pub returns-in-DropLabel-clause-reverting : goal.returns-in-DropLabel-clause-reverting
returns-in-DropLabel-clause-reverting c = λ takes. absurd (reads_no_change _ _ c.in-DropLabel.is refl takes)

pub returns-in-Relabel-clause-reverting : goal.returns-in-Relabel-clause-reverting
returns-in-Relabel-clause-reverting c = λ takes. absurd (reads_no_change _ _ c.in-Relabel.is refl takes)

pub returns-in-Grow-clause-reverting : goal.returns-in-Grow-clause-reverting
returns-in-Grow-clause-reverting c = λ takes. absurd (reads_no_change _ _ c.in-Grow.is refl takes)

pub returns-in-Normalise-clause-reverting : goal.returns-in-Normalise-clause-reverting
returns-in-Normalise-clause-reverting c = λ takes. absurd (reads_no_change _ _ c.in-Normalise.is refl takes)

pub returns-in-Revert-clause-pairs : goal.returns-in-Revert-clause-pairs
returns-in-Revert-clause-pairs c = λ reads. let takes = ap reverts c.in-Revert.is in cc

pub returns-in-Add-clause-copies : goal.returns-in-Add-clause-copies
returns-in-Add-clause-copies c =
    λ reads above.
    let made : Edit → Bool = λ edit. has_count_above_every_limit (edited_by c.args.changes.now edit c.args.bag.now.held) in
    ap made c.in-Add.is ∙ c.plan.ensures.copies above

pub returns-in-AddUnion-clause-copies : goal.returns-in-AddUnion-clause-copies
returns-in-AddUnion-clause-copies c =
    λ reads above.
    let made : Edit → Bool = λ edit. has_count_above_every_limit (edited_by c.args.changes.now edit c.args.bag.now.held) in
    ap made c.in-AddUnion.is ∙ c.plan-in-AddUnion.ensures.copies above

pub returns-in-Relabel-clause-copies : goal.returns-in-Relabel-clause-copies
returns-in-Relabel-clause-copies c =
    λ reads above.
    let made : Edit → Bool = λ edit. has_count_above_every_limit (edited_by c.args.changes.now edit c.args.bag.now.held) in
    ap made c.in-Relabel.is ∙ c.plan-in-Relabel.ensures.copies above

pub returns-in-Revert-clause-copies : goal.returns-in-Revert-clause-copies
returns-in-Revert-clause-copies c = λ reads above. let takes = ap reverts c.in-Revert.is in cc
