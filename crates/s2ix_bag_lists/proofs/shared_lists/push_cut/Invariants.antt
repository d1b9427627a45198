use Rattle.std.proofs.Common.{◌≡◌, ◌++◌, All, length, reverse}
use Rattle.s2ix_bag_lists.specs.Bundles.{HasList, lists_of}
use Rattle.s2ix_bag_lists.proofs.shared_lists.push_cut.Given as goal

abbrev pub invariant-loop-bundle : goal.invariant-loop-bundle
invariant-loop-bundle l =
    (lists_of l.bundles.items ++ lists_of (reverse l.cut.items) ≡ lists_of l.fn.bundles.items ++ l.fn.lists.items)
    × All HasList l.bundles.items
    × All HasList l.cut.items

abbrev pub decreases-loop-bundle : goal.decreases-loop-bundle
decreases-loop-bundle l = length l.cut.items
