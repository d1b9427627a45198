-- Some of the lists of a list of lists.
use Rattle.std.specs.Prelude.{◌-◌, Some, None, List, [], ◌++◌, take, drop}
use Rattle.s2ix_bag_pairs.specs.Collection.{Collection}
use Rattle.s2ix_bag_lists.specs.Faces.{all_of}
use Rattle.s2ix_bag_lists.specs.declared.lists_view.ListsView.{ListsView}

-- all lists of which a view shows some
abbrev pub all_in : ListsView → List Collection
all_in lists = elim lists.whole [ None ↦ [] | Some whole ↦ whole.now ]

-- the lists of a view: from the first one up to the end
abbrev pub lists_in : ListsView → List Collection
lists_in lists = take (lists.end - lists.first) (drop lists.first (all_in lists))

-- what these lists hold, and what others hold after them
abbrev pub held_from : ListsView → List Collection → Collection
held_from lists later = all_of (lists_in lists) ++ all_of later
