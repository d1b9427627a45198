use Rattle.std.proofs.Common.{◌≡◌, take}
use Rattle.s2ix_c_calls.specs.Asked.{AreRight}
use Rattle.s2ix_c_calls.proofs.rows.wrong_row.Given as goal

abbrev pub invariant-loop-place : goal.invariant-loop-place
invariant-loop-place l = AreRight (take l.place l.rows) × (l.number ≡ 0)
