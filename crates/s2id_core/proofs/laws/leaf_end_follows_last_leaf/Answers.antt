use Rattle.std.proofs.Common.{refl}
use Rattle.s2id_core.specs.Path.{number_of, digits_from, last_leaf}
use Rattle.s2id_core.proofs.laws.leaf_end_follows_last_leaf.Goals as goal

pub returns-clause-next : goal.returns-clause-next
unfolding number_of digits_from last_leaf
returns-clause-next c = refl
