-- Cells that fields name, gathered one after the other.
use Rattle.std.specs.Prelude.{List, ◌++◌, Result, Ok, Err}
use Rattle.s2id_core.specs.declared.cell_id.CellId.{CellId}
use Rattle.s2ix_cli_script.specs.declared.line_fault.LineFault.{LineFault}

-- cells that were gathered, and then what the fields that are left name
abbrev pub after : List CellId → Result (List CellId) LineFault → Result (List CellId) LineFault
after cells (Ok rest) = Ok (cells ++ rest)
after cells (Err fault) = Err fault
