-- What a collection holds with one label.
use Rattle.std.specs.Prelude.{◌==◌}
use Rattle.std.specs.List.{filter}
use Rattle.s2ix_bag_pairs.specs.declared.label.Label.{Label}
use Rattle.s2ix_bag_pairs.specs.Collection.{Collection}
use Rattle.s2ix_bag_pairs.specs.Label.{value_of}

-- the held pairs with this label, in their order
abbrev pub held_of : Label → Collection → Collection
held_of label hs = filter (λ h. value_of h.pair.label == value_of label) hs
