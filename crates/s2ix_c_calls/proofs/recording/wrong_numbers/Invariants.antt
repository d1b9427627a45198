use Rattle.std.proofs.Common.{◌≡◌, take}
use Rattle.s2ix_c_calls.specs.Recording.{AreAllEntries}
use Rattle.s2ix_c_calls.proofs.recording.wrong_numbers.Given as goal

abbrev pub invariant-loop-place : goal.invariant-loop-place
invariant-loop-place l = AreAllEntries (take l.place l.rows) × (l.number ≡ 0)
