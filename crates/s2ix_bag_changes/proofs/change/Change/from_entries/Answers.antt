-- A list of entries without a fault is a change.
use Rattle.std.proofs.Common.{List, sym, ◌∙◌, subst}
use Rattle.s2ix_bag_pairs.specs.Change.{IsChangeList}
use Rattle.s2ix_bag_pairs.specs.declared.pair.Entry.{Entry}
use Rattle.s2ix_bag_lists.proofs.Unsorted.{change_without_fault}
use Rattle.s2ix_bag_changes.proofs.change.Change.from_entries.Goals as goal

pub invariant_of-result : goal.invariant_of-result
invariant_of-result c =
    subst (λ (es : List Entry). IsChangeList es) (sym c.in_ok-entries.ensures.items)
    (change_without_fault c.args.entries.now (sym c.fault.ensures ∙ c.in_default.is))
