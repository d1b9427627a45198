use Rattle.s2id_core.proofs.Numbers.{path_at-number}
use Rattle.s2id_core.proofs.laws.number_tells_path.Goals as goal

pub returns : goal.returns
returns c = path_at-number
