use Rattle.s2id_cube.proofs.Loop.{next_shares}
use Rattle.s2id_cube.proofs.laws.next_cell_shares_edge.Goals as goal

pub returns : goal.returns
returns c = next_shares
