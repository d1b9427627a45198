use Rattle.s2id_union.proofs.Shortest.{shortest}
use Rattle.s2id_union.proofs.laws.normal_list_is_shortest.Goals as goal

pub returns : goal.returns
returns c = shortest
