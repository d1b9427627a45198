use Rattle.s2id_union.proofs.FewCells.{few_where}
use Rattle.s2id_union.proofs.laws.spans_have_few_cells.Goals as goal

pub returns : goal.returns
returns c = few_where
