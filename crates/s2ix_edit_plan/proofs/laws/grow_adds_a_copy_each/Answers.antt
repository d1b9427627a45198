use Rattle.std.proofs.Common.{◌≡◌, sym, ap, subst, Contains}
use Rattle.s2ix_bag_pairs.specs.declared.pair.Pair.{Pair}
use Rattle.s2ix_bag_pairs.specs.Pair.{rank_of}
use Rattle.s2ix_bag_pairs.proofs.Pairs.{same_pair}
use Rattle.s2ix_edit_plan.specs.Edit.{pair_of}
use Rattle.s2ix_edit_plan.specs.Grow.{grown_cells}
use Rattle.s2ix_edit_plan.proofs.AddUnion.{with_each_other, with_each_same}
use Rattle.s2ix_edit_plan.proofs.Grow.{grown_rise, in_grown}
use Rattle.s2ix_edit_plan.proofs.laws.grow_adds_a_copy_each.Goals as goal

pub returns-clause-cells : goal.returns-clause-cells
returns-clause-cells c =
    λ hs label level cell is grown.
    with_each_same label (grown_cells label level hs) hs cell is (grown_rise label level hs) ((in_grown label level hs cell).1 grown)

pub returns-clause-others : goal.returns-clause-others
returns-clause-others c =
    λ hs label level other apart.
    with_each_other label (grown_cells label level hs) hs (rank_of other)
    (λ cell has same.
    let is : pair_of cell label ≡ other = same_pair (pair_of cell label) other same in
    let In : Pair → Type 0 = λ p. Contains (grown_cells label level hs) p.cell in
    apart ((in_grown label level hs other.cell).0 (subst In is has)) (ap (λ (p : Pair). p.label) (sym is)))
