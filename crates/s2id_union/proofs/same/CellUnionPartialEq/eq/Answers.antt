use Rattle.std.proofs.Common.{rules}
use Rattle.s2id_union.proofs.same.CellUnionPartialEq.eq.Goals as goal

pub returns : goal.returns
returns c = search rules
