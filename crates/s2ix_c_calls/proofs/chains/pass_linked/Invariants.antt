-- The chain goes on after those that are passed.
use Rattle.std.proofs.Common.{◌≡◌, ◌≤◌, ◌-◌, ℕ, drop, length}
use Rattle.s2ix_bag_pairs.specs.Collection.{Collection}
use Rattle.s2ix_table_walk.specs.Links.{AreLinked}
use Rattle.s2ix_c_calls.proofs.chains.pass_linked.Given as goal

abbrev pub invariant-loop-passed : goal.invariant-loop-passed
invariant-loop-passed l =
    (l.passed ≤ l.count)
    × ((chain : ℕ → Collection) → AreLinked l.held l.outers chain → chain l.place ≡ drop l.passed (chain l.fn.first))
    × ((chain : ℕ → Collection) → AreLinked l.held l.outers chain → l.passed ≤ length (chain l.fn.first))

abbrev pub decreases-loop-passed : goal.decreases-loop-passed
decreases-loop-passed l = l.count - l.passed
