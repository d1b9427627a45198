use Rattle.std.proofs.Common.{refl}
use Rattle.s2ix_bag_pairs.proofs.Pairs.{same_label}
use Rattle.s2ix_edit_plan.specs.Edit.{pair_of}
use Rattle.s2ix_edit_plan.proofs.Relabel.{moved_to_itself, relabelled_other, relabelled_source, relabelled_target}
use Rattle.s2ix_edit_plan.proofs.laws.relabel_moves_copies.Goals as goal

pub returns-clause-target : goal.returns-clause-target
returns-clause-target c =
    λ hs source target cell is apart. relabelled_target source target hs cell is (λ same. apart (same_label source target same))

pub returns-clause-source : goal.returns-clause-source
returns-clause-source c =
    λ hs source target cell is apart.
    relabelled_source source target hs (pair_of cell source) is (λ same. apart (same_label source target same)) refl

pub returns-clause-others : goal.returns-clause-others
returns-clause-others c =
    λ hs source target other is not_source not_target.
    relabelled_other source target hs other is
    (λ same. not_source (same_label other.label source same)) (λ same. not_target (same_label other.label target same))

pub returns-clause-itself : goal.returns-clause-itself
returns-clause-itself c = λ hs label is. moved_to_itself label label hs is refl
