-- So many are put.
use Rattle.std.proofs.Common.{◌≡◌, ◌+◌, ◌++◌, length, take}
use Rattle.s2ix_table_queries.proofs.many.put_items.Given as goal

abbrev pub invariant-loop-k : goal.invariant-loop-k
invariant-loop-k g l =
    (length l.out ≡ length l.initial.out) × (take (l.from + l.k) l.out ≡ take l.from l.initial.out ++ take l.k l.items)
