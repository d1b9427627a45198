use Rattle.std.proofs.Common.{ap}
use Rattle.s2ix_bag_pairs.specs.Label.{value_of}
use Rattle.s2ix_bag_pairs.proofs.Pairs.{same_label}
use Rattle.s2ix_edit_plan.proofs.DropLabel.{without_other, without_own}
use Rattle.s2ix_edit_plan.proofs.laws.drop_label_takes_all_copies.Goals as goal

pub returns-clause-label : goal.returns-clause-label
returns-clause-label c = λ hs label pair own. without_own label hs pair (ap value_of own)

pub returns-clause-others : goal.returns-clause-others
returns-clause-others c =
    λ hs label other is apart. without_other label hs other is (λ same. apart (same_label other.label label same))
