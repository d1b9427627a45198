-- The label list as a function of the meeting list.
use Rattle.std.specs.Prelude.{List, [], ◌∷◌}
use Rattle.s2ix_bag_pairs.specs.Collection.{Collection}
use Rattle.s2ix_bag_pairs.specs.Label.{value_of}
use Rattle.s2ix_bag_pairs.specs.declared.label.Label.{Label}
use Rattle.s2ix_table_walk.specs.Once.{put_once}

-- the labels of pairs, once each and rising
unfoldable pub label_list : Collection → List Label
label_list [] = []
label_list (h ∷ hs) = put_once value_of h.pair.label (label_list hs)
