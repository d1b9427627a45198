use Rattle.std.proofs.Common.{◌≡◌, ◌∙◌, sym, true, arith, length}
use Rattle.std.specs.Prelude.{◌==◌}
use Rattle.s2ix_edit_store.proofs.HeldLabels.{none_held}
use Rattle.s2ix_edit_store.proofs.held_labels.held_labels_of.Goals as goal

pub returns-then-is_empty-clause-list : goal.returns-then-is_empty-clause-list
returns-then-is_empty-clause-list c =
    let empty : (length c.args.bag.now.held == 0) ≡ true = sym c.is_empty.ensures ∙ c.if-is_empty.true in
    let none : length c.args.bag.now.held ≡ 0 = grind arith in
    c.new.ensures.items ∙ sym (none_held c.args.bag.now.held none)
