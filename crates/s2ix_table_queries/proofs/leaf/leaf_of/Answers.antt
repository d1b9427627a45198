-- An even number is no leaf's.
use Rattle.std.proofs.Common.{sym}
use Rattle.s2ix_table_queries.proofs.Numbers.{no_leaf}
use Rattle.s2ix_table_queries.proofs.leaf.leaf_of.Goals as goal

pub returns-then-number-eq0-clause-leaf : goal.returns-then-number-eq0-clause-leaf
returns-then-number-eq0-clause-leaf c = sym (no_leaf c.args.number c.if-number-eq0.true)
