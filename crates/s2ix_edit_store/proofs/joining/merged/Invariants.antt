use Rattle.std.proofs.Common.{◌+◌, ◌-◌, ◌≤◌, length, vec_capacity, vec_len}
use Rattle.s2ix_edit_store.proofs.Merging.{Merging}
use Rattle.s2ix_edit_store.proofs.joining.merged.Given as goal

abbrev pub invariant-loop-i : goal.invariant-loop-i
invariant-loop-i l =
    Merging l.older l.newer l.out.items l.i l.k
    × (vec_len l.out + ((length l.older - l.i) + (length l.newer - l.k)) ≤ vec_capacity l.out)

abbrev pub decreases-loop-i : goal.decreases-loop-i
decreases-loop-i l = (length l.older - l.i) + (length l.newer - l.k)
