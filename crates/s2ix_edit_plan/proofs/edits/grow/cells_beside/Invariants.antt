use Rattle.std.proofs.Common.{take}
use Rattle.s2ix_edit_plan.proofs.Beside.{AreNext}
use Rattle.s2ix_edit_plan.proofs.edits.grow.cells_beside.Given as goal

abbrev pub invariant-loop-cell : goal.invariant-loop-cell
invariant-loop-cell l = AreNext l.level (take l.cell-index l.cells) l.beside.items
