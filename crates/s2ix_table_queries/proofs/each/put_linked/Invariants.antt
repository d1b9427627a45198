-- What is put, with what is left of the chain, is the whole.
use Rattle.std.proofs.Common.{◌≡◌, ◌-◌, ◌+◌, ◌++◌, ◌≤◌, ℕ, length, map, take}
use Rattle.s2ix_bag_pairs.specs.Collection.{Collection}
use Rattle.s2ix_table_walk.specs.Links.{AreLinked}
use Rattle.s2ix_table_queries.proofs.each.put_linked.Given as goal

abbrev pub invariant-loop-place : goal.invariant-loop-place
invariant-loop-place g l =
    (l.from ≤ l.at)
    × (l.at ≤ length l.out)
    × (length l.out ≡ length l.initial.out)
    × (take l.from l.out ≡ take l.from l.initial.out)
    × ((chain : ℕ → Collection) → AreLinked l.held l.outer chain
    → (l.at + length (chain l.place) ≡ l.from + length (chain l.fn.first))
    × (take l.at l.out ++ map g.R.OfHeld.of (chain l.place) ≡ take l.from l.initial.out ++ map g.R.OfHeld.of (chain l.fn.first)))

abbrev pub decreases-loop-place : goal.decreases-loop-place
decreases-loop-place g l = length l.out - l.at
