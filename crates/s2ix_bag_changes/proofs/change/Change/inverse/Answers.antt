-- The inverse of a change is a change.
use Rattle.std.proofs.Common.{List, sym, ap, ◌∙◌, subst}
use Rattle.s2ix_bag_pairs.specs.Change.{IsChangeList, inverse_of}
use Rattle.s2ix_bag_pairs.specs.declared.pair.Entry.{Entry}
use Rattle.s2ix_bag_pairs.proofs.Inverse.{inverse_keeps}
use Rattle.s2ix_bag_changes.proofs.change.Change.inverse.Goals as goal

pub invariant_of-result : goal.invariant_of-result
invariant_of-result c =
    let items = c.in_ok-entries.ensures ∙ ap inverse_of c.as_slice.ensures.value in
    subst (λ (es : List Entry). IsChangeList es) (sym items) (inverse_keeps c.self.inside.entries.items c.self.invariant)
