use Rattle.std.proofs.Common.{◌≡◌, ◌++◌, map, take}
use Rattle.s2ix_bag_pairs.specs.Change.{removal_of}
use Rattle.s2ix_bag_lists.proofs.compare.push_removals.Given as goal

abbrev pub invariant-loop-h : goal.invariant-loop-h
invariant-loop-h l = l.out.items ≡ l.initial.out.items ++ map removal_of (take l.h-index l.held)
