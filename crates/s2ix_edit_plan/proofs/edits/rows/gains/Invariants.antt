use Rattle.std.proofs.Common.{drop}
use Rattle.s2ix_edit_plan.proofs.Rows.{Walks}
use Rattle.s2ix_edit_plan.proofs.edits.rows.gains.Given as goal

abbrev pub invariant-loop-row : goal.invariant-loop-row
invariant-loop-row l = Walks l.bag.held l.rows l.entries.items l.pending (drop l.row-index l.rest)
