-- The rows so far are those of the first ranges of the page.
use Rattle.std.proofs.Common.{◌≡◌, length, map, take, drop}
use Rattle.s2ix_c_calls.specs.Ranges.{leaf_range_of}
use Rattle.s2ix_c_calls.proofs.ranges.write_ranges.Given as goal

abbrev pub invariant-loop-place : goal.invariant-loop-place
invariant-loop-place g l =
    (take l.place l.out ≡ map leaf_range_of (take l.place (drop l.from (g.T.RangeTable.ranges l.table))))
    × (drop l.place l.out ≡ drop l.place l.initial.out)
    × (length l.out ≡ length l.initial.out)
