use Rattle.s2ix_bag_pairs.proofs.OfLabel.{of_label_from, count_in-held_of}
use Rattle.s2ix_bag_pairs.proofs.laws.labels_are_counted.Goals as goal

pub returns : goal.returns
returns c =
    λ label hs hs_is. (of_label_from 0 label hs hs_is, λ p. count_in-held_of label hs p)
