use Rattle.std.proofs.Common.{◌≡◌, ◌++◌, All, length, reverse}
use Rattle.s2ix_bag_lists.specs.Bundles.{HasList, lists_of}
use Rattle.s2ix_bag_lists.proofs.shared_lists.cut_from_end.Given as goal

abbrev pub invariant-loop-alloc : goal.invariant-loop-alloc
invariant-loop-alloc l = (l.rest.items ++ lists_of (reverse l.cut.items) ≡ l.fn.lists.items) × All HasList l.cut.items

abbrev pub decreases-loop-alloc : goal.decreases-loop-alloc
decreases-loop-alloc l = length l.rest.items
