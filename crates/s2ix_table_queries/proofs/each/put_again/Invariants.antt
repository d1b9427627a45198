-- So many are put again.
use Rattle.std.proofs.Common.{◌≡◌, ◌+◌, ◌++◌, length, take, drop}
use Rattle.s2ix_table_queries.proofs.each.put_again.Given as goal

abbrev pub invariant-loop-k : goal.invariant-loop-k
invariant-loop-k g l =
    (length l.out ≡ length l.initial.out)
    × (take (l.end + l.k) l.out ≡ take l.end l.initial.out ++ take l.k (drop l.from (take l.end l.initial.out)))
