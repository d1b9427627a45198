use Rattle.std.proofs.Common.{subst}
use Rattle.s2id_core.specs.Path.{path_at}
use Rattle.s2id_core.specs.Cell.{IsCellNumber}
use Rattle.s2id_core.proofs.Numbers.{path_of_cell, cell_of_path}
use Rattle.s2id_core.proofs.laws.cells_are_paths.Goals as goal

pub returns : goal.returns
returns c = λ n. (λ cell. (path_at n, path_of_cell n cell, cell.2), λ w. subst IsCellNumber w.2 (cell_of_path w.0 w.1))
