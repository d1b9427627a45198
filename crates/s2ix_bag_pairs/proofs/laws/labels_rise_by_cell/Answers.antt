use Rattle.s2ix_bag_pairs.proofs.OfLabel.{cells_rise_from}
use Rattle.s2ix_bag_pairs.proofs.laws.labels_rise_by_cell.Goals as goal

pub returns : goal.returns
returns c =
    λ label hs hs_is. cells_rise_from 0 label hs hs_is
