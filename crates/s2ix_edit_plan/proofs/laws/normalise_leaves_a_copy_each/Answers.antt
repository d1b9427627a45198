use Rattle.s2ix_bag_pairs.proofs.Pairs.{same_label}
use Rattle.s2ix_edit_plan.specs.Region.{region_of}
use Rattle.s2ix_edit_plan.proofs.Normalise.{normalised_cell, normalised_cells, normalised_elsewhere, normalised_region, replaced_other}
use Rattle.s2ix_edit_plan.proofs.laws.normalise_leaves_a_copy_each.Goals as goal

pub returns-clause-cells : goal.returns-clause-cells
returns-clause-cells c = λ hs label cell is has. normalised_cell label hs cell is has

pub returns-clause-other_cells : goal.returns-clause-other_cells
returns-clause-other_cells c = λ hs label cell is lacks. normalised_elsewhere label hs cell lacks

pub returns-clause-others : goal.returns-clause-others
returns-clause-others c =
    λ hs label other is apart. replaced_other label (region_of label hs) hs other is (λ same. apart (same_label other.label label same))

pub returns-clause-normal : goal.returns-clause-normal
returns-clause-normal c = λ hs label is. normalised_cells label hs is

pub returns-clause-region : goal.returns-clause-region
returns-clause-region c = λ hs label is. normalised_region label hs is
