use Rattle.s2id_union.proofs.Equal.{cell_lists_decided, leaves_decided}
use Rattle.s2id_union.proofs.laws.equal_unions_are_one.Goals as goal

pub returns-clause-cells : goal.returns-clause-cells
returns-clause-cells c = cell_lists_decided

pub returns-clause-leaves : goal.returns-clause-leaves
returns-clause-leaves c = leaves_decided
