-- The rows so far are those of the first pairs of the page.
use Rattle.std.proofs.Common.{◌≡◌, ◌≤◌, ◌-◌, length, map, take, drop}
use Rattle.s2ix_c_calls.specs.Lists.{row_of}
use Rattle.s2ix_c_calls.proofs.listing.write_page.Given as goal

abbrev pub invariant-loop-put : goal.invariant-loop-put
invariant-loop-put l =
    (l.put ≤ l.count)
    × (take l.put l.out ≡ map row_of (take l.put (drop l.from l.bag.held)))
    × (drop l.put l.out ≡ drop l.put l.initial.out)
    × (length l.out ≡ length l.initial.out)

abbrev pub decreases-loop-put : goal.decreases-loop-put
decreases-loop-put l = l.count - l.put
