use Rattle.std.proofs.Common.{refl}
use Rattle.s2id_core.specs.Path.{number_of}
use Rattle.s2id_core.proofs.laws.number_is_sum.Goals as goal

pub returns : goal.returns
unfolding number_of
returns c = λ p. refl
