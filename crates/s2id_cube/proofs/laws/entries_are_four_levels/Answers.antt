use Rattle.s2id_cube.proofs.LevelTables.{square_entry_is, place_entry_at}
use Rattle.s2id_cube.proofs.laws.entries_are_four_levels.Goals as goal

pub returns-clause-squares : goal.returns-clause-squares
returns-clause-squares c = λ orientation positions ho hp. (square_entry_is orientation positions ho hp).steps

pub returns-clause-places : goal.returns-clause-places
returns-clause-places c = place_entry_at
