use Rattle.s2id_cube.proofs.Distinct.{one_shared_side}
use Rattle.s2id_cube.proofs.laws.two_cells_share_one_side.Goals as goal

pub returns : goal.returns
returns c = one_shared_side
