use Rattle.s2id_union.proofs.Unique.{one_normal}
use Rattle.s2id_union.proofs.laws.one_normal_list.Goals as goal

pub returns : goal.returns
returns c = one_normal
