use Rattle.s2id_cube.proofs.Shared.{square_taken, one_cell}
use Rattle.s2id_cube.proofs.laws.square_tells_cell.Goals as goal

pub returns-clause-taken : goal.returns-clause-taken
returns-clause-taken c = square_taken

pub returns-clause-one : goal.returns-clause-one
returns-clause-one c = one_cell
