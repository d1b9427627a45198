use Rattle.s2ix_bag_held.proofs.LabelFilters.{ones_let}
use Rattle.s2ix_bag_held.proofs.label_filter.LabelFilter.all.Goals as goal

pub returns : goal.returns
returns c = ones_let
