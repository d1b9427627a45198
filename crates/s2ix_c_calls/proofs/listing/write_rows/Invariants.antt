-- The rows so far are those of the first pairs.
use Rattle.std.proofs.Common.{◌≡◌, length, map, take, drop}
use Rattle.s2ix_c_calls.specs.Lists.{row_of}
use Rattle.s2ix_c_calls.proofs.listing.write_rows.Given as goal

abbrev pub invariant-loop-place : goal.invariant-loop-place
invariant-loop-place l =
    (take l.place l.out ≡ map row_of (take l.place l.held))
    × (drop l.place l.out ≡ drop l.place l.initial.out)
    × (length l.out ≡ length l.initial.out)
