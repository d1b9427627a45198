-- The cells are the border of the cell that has the number.
use Rattle.s2ix_c.proofs.OfCells.{bordered}
use Rattle.s2ix_c.proofs.cells.border_of.Goals as goal

pub returns-in-Ok-clause-cells : goal.returns-in-Ok-clause-cells
returns-in-Ok-clause-cells c =
    bordered c.in-Some.cell c.args.cell c.args.level c.in-Ok.cells.items c.in-Some.ensures.number c.in-Ok.ensures.rising c.in-Ok.ensures.cells c.in-Ok.ensures.complete c.in-Ok.ensures.at_most
