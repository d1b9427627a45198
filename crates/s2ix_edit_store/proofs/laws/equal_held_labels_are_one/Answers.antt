use Rattle.std.proofs.Common.{arith, ap}
use Rattle.std.proofs.lemmas.Bool.Decides.{nat_tests}
use Rattle.s2ix_bag_pairs.specs.Label.{value_of}
use Rattle.s2ix_edit_store.specs.declared.held_labels.HeldLabel.{HeldLabel}
use Rattle.s2ix_edit_store.proofs.HeldLabels.{same_totals}
use Rattle.s2ix_edit_store.proofs.laws.equal_held_labels_are_one.Goals as goal

pub returns : goal.returns
returns c = λ a b. (
  λ is. same_totals a b (grind (arith, nat_tests)) (grind (arith, nat_tests)) (grind (arith, nat_tests)),
  λ same.
      let label = ap (λ (t : HeldLabel). value_of t.label) same in
      let pairs = ap (λ (t : HeldLabel). t.pairs) same in
      let copies = ap (λ (t : HeldLabel). t.copies) same in
      grind (arith, nat_tests),
)
