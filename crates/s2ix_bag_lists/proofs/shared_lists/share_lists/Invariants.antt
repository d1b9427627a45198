use Rattle.std.proofs.Common.{◌≡◌, ◌++◌, take}
use Rattle.s2ix_bag_lists.proofs.shared_lists.share_lists.Given as goal

abbrev pub invariant-loop-list : goal.invariant-loop-list
invariant-loop-list l = l.out.items ≡ l.fn.out.items ++ take l.list-index l.lists
