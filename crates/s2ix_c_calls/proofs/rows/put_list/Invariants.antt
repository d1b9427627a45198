use Rattle.std.proofs.Common.{◌≡◌, length, map, take, drop}
use Rattle.s2ix_c_calls.proofs.rows.put_list.Given as goal

abbrev pub invariant-loop-place : goal.invariant-loop-place
invariant-loop-place g l =
    (take l.place l.out ≡ map g.R.OfItem.of (take l.place l.list))
    × (drop l.place l.out ≡ drop l.place l.initial.out)
    × (length l.out ≡ length l.initial.out)
