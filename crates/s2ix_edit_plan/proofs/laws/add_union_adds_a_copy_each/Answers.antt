use Rattle.std.proofs.Common.{◌≡◌, sym, ap, subst, Contains}
use Rattle.s2ix_bag_pairs.specs.declared.pair.Pair.{Pair}
use Rattle.s2ix_bag_pairs.specs.Pair.{rank_of}
use Rattle.s2ix_bag_pairs.proofs.Pairs.{same_pair}
use Rattle.s2ix_edit_plan.specs.Edit.{pair_of}
use Rattle.s2ix_edit_plan.proofs.AddUnion.{with_each_other, with_each_same}
use Rattle.s2ix_edit_plan.proofs.laws.add_union_adds_a_copy_each.Goals as goal

pub returns-clause-cells : goal.returns-clause-cells
returns-clause-cells c = λ hs cells label cell is normal has. with_each_same label cells hs cell is normal.rises has

pub returns-clause-others : goal.returns-clause-others
returns-clause-others c =
    λ hs cells label other apart.
    with_each_other label cells hs (rank_of other)
    (λ cell has same.
    let is : pair_of cell label ≡ other = same_pair (pair_of cell label) other same in
    let In : Pair → Type 0 = λ p. Contains cells p.cell in
    apart (subst In is has) (ap (λ (p : Pair). p.label) (sym is)))
