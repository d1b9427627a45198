use Rattle.std.proofs.Common.{◌≡◌, map, take}
use Rattle.s2ix_edit_plan.proofs.AddUnion.{addition}
use Rattle.s2ix_edit_plan.proofs.edits.add_union.plan.Given as goal

abbrev pub invariant-loop-cell : goal.invariant-loop-cell
invariant-loop-cell l = l.entries.items ≡ map (addition l.bag.held l.label) (take l.cell-index l.cell-items)
