-- A cell's canonical token spells that cell.
use Rattle.std.proofs.Common.{ap, ◌∙◌}
use Rattle.s2id_core.specs.CellId.{raw_of}
use Rattle.s2id_core.specs.Token.{canonical_token}
use Rattle.s2id_core.proofs.Canonical.{canonical_spells}
use Rattle.s2id_core.proofs.Spelled.{cell_spelled-some}
use Rattle.s2ix_cli_script.specs.Named.{cell_with, cells_named, cells_with}
use Rattle.s2ix_cli_script.proofs.cells.next_cell.Goals as goal

pub returns-in-Some-clause-next : goal.returns-in-Some-clause-next
returns-in-Some-clause-next c =
    let cell = c.in-Some.cell in
    ap cells_named c.in-Some.ensures.cell
    ∙ ap (λ spelled. cells_with (cell_with spelled) (cells_named c.next_cell.new.self))
    (cell_spelled-some (canonical_token (raw_of cell)) cell (canonical_spells (raw_of cell) cell.valid))
