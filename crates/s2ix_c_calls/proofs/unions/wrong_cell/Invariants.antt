-- The numbers that were passed over are all cells'.
use Rattle.std.proofs.Common.{take}
use Rattle.s2ix_c_calls.specs.Asked.{AreAllCells}
use Rattle.s2ix_c_calls.proofs.unions.wrong_cell.Given as goal

abbrev pub invariant-loop-place : goal.invariant-loop-place
invariant-loop-place l = AreAllCells (take l.place l.ids)
