use Rattle.s2id_union.proofs.Largest.{where_normal, where_region}
use Rattle.s2id_union.proofs.laws.cells_where_is_normal.Goals as goal

pub returns-clause-normal : goal.returns-clause-normal
returns-clause-normal c = where_normal

pub returns-clause-leaves : goal.returns-clause-leaves
returns-clause-leaves c = where_region
