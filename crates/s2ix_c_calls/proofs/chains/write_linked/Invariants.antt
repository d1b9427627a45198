-- The rows that are out, with those of the pairs that are still to go out, are the chain's.
use Rattle.std.proofs.Common.{◌≡◌, ◌≤◌, ◌-◌, ◌++◌, ℕ, length, map, take, drop}
use Rattle.s2ix_bag_pairs.specs.Collection.{Collection}
use Rattle.s2ix_table_walk.specs.Links.{AreLinked}
use Rattle.s2ix_c_calls.specs.Lists.{row_of}
use Rattle.s2ix_c_calls.proofs.chains.write_linked.Given as goal

abbrev pub invariant-loop-place : goal.invariant-loop-place
invariant-loop-place l =
    ((chain : ℕ → Collection) → AreLinked l.held l.outers chain
    → take l.count l.out ++ map row_of (chain l.place) ≡ map row_of (chain l.fn.first))
    × (l.count ≤ length l.out)
    × (drop l.count l.out ≡ drop l.count l.initial.out)
    × (length l.out ≡ length l.initial.out)

abbrev pub decreases-loop-place : goal.decreases-loop-place
decreases-loop-place l = length l.out - l.count
