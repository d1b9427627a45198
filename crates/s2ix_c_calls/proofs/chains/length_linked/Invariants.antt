-- The pairs that are counted and those that are left are as many as there were.
use Rattle.std.proofs.Common.{◌≡◌, ◌≤◌, ◌+◌, ◌-◌, ℕ, length}
use Rattle.s2ix_bag_pairs.specs.Collection.{Collection}
use Rattle.s2ix_table_walk.specs.Links.{AreLinked}
use Rattle.s2ix_c_calls.proofs.chains.length_linked.Given as goal

abbrev pub invariant-loop-left : goal.invariant-loop-left
invariant-loop-left l =
    (l.left ≤ 1000000)
    × ((chain : ℕ → Collection) → AreLinked l.held l.outers chain → l.left + length (chain l.place) ≡ length (chain l.fn.first))

abbrev pub decreases-loop-left : goal.decreases-loop-left
decreases-loop-left l = 1000000 - l.left
