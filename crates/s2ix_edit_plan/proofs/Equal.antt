-- What is equal is one: edits, by their parts.
use Rattle.std.proofs.Common.{◌≡◌, ℕ, true, List, ap, ap₂, subst, arith}
use Rattle.std.specs.Bool.{Decides}
use Rattle.std.specs.Cmp.{first_so}
use Rattle.std.proofs.lemmas.Bool.Decides.{nat_tests}
use Rattle.s2id_core.specs.declared.cell_id.CellId.{CellId}
use Rattle.s2id_union.proofs.Equal.{cell_lists_decided}
use Rattle.s2ix_bag_pairs.specs.declared.label.Label.{Label}
use Rattle.s2ix_bag_pairs.specs.declared.pair.Pair.{Pair}
use Rattle.s2ix_bag_pairs.proofs.Pairs.{same_label, same_pair}
use Rattle.s2ix_edit_plan.specs.declared.edit.Edit.{Edit}
use Rattle.s2ix_edit_plan.specs.declared.edit.Edit.TheVariants.{Add, AddUnion, Remove, DropLabel, Relabel, Grow, Normalise, Revert}
use Rattle.s2ix_edit_plan.specs.contracts.edit.EditPartialEq.TheImpl.{eq-value as edit_test}
use Rattle.s2ix_edit_plan.specs.contracts.edit.EditEq.TheImpl.Laws as of_edits

one_edit : (a b : Edit) → edit_test.it a b ≡ true → a ≡ b
one_edit (Add p c) (Add q d) h = ap₂ (λ (x : Pair) (n : ℕ). Add x n) (same_pair p q (grind (arith, nat_tests))) (grind (arith, nat_tests))
one_edit (Add p c) b h = cc
one_edit (AddUnion cs l) (AddUnion ds m) h =
    ap₂ (λ (cells : List CellId) (x : Label). AddUnion cells x) ((cell_lists_decided cs ds).0 (first_so _ _ h))
    (same_label l m (grind (arith, nat_tests)))
one_edit (AddUnion cs l) b h = cc
one_edit (Remove p c) (Remove q d) h =
    ap₂ (λ (x : Pair) (n : ℕ). Remove x n) (same_pair p q (grind (arith, nat_tests))) (grind (arith, nat_tests))
one_edit (Remove p c) b h = cc
one_edit (DropLabel l) (DropLabel m) h = ap (λ (x : Label). DropLabel x) (same_label l m (grind (arith, nat_tests)))
one_edit (DropLabel l) b h = cc
one_edit (Relabel l m) (Relabel k n) h =
    ap₂ (λ (x y : Label). Relabel x y) (same_label l k (grind (arith, nat_tests))) (same_label m n (grind (arith, nat_tests)))
one_edit (Relabel l m) b h = cc
one_edit (Grow l n) (Grow m k) h =
    ap₂ (λ (x : Label) (j : ℕ). Grow x j) (same_label l m (grind (arith, nat_tests))) (grind (arith, nat_tests))
one_edit (Grow l n) b h = cc
one_edit (Normalise l) (Normalise m) h = ap (λ (x : Label). Normalise x) (same_label l m (grind (arith, nat_tests)))
one_edit (Normalise l) b h = cc
one_edit (Revert n) (Revert m) h = ap (λ (j : ℕ). Revert j) (grind (arith, nat_tests))
one_edit (Revert n) b h = cc

-- `==` decides whether two edits are one
pub edits_decided : (a b : Edit) → Decides (edit_test.it a b) (a ≡ b)
edits_decided a b = (one_edit a b, λ e. subst (λ (x : Edit). edit_test.it a x ≡ true) e (of_edits.laws-law.refl a))
