-- The fields so far named cells: what is wrong with all of them is wrong with those left. While there was room, the cells were gathered.
use Rattle.std.proofs.Common.{◌≡◌, ◌∷◌, length, true}
use Rattle.std.specs.Result.{result_err}
use Rattle.s2ix_cli_script.specs.Named.{cells_named}
use Rattle.s2ix_cli_script.proofs.CellFields.{after}
use Rattle.s2ix_cli_script.proofs.cells.read_cells.Given as goal

abbrev pub invariant-tokens : goal.invariant-tokens
invariant-tokens l =
    (result_err (cells_named (l.first ∷ l.fn.rest)) ≡ result_err (cells_named l.rest))
    × (l.has_room ≡ true → cells_named (l.first ∷ l.fn.rest) ≡ after l.cells.items (cells_named l.rest))

abbrev pub decreases-tokens : goal.decreases-tokens
decreases-tokens l = length l.rest
