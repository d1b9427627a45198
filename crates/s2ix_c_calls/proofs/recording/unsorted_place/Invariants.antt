-- The entries so far rise.
use Rattle.s2ix_c_calls.proofs.OfEntries.{GivenRise}
use Rattle.s2ix_c_calls.proofs.recording.unsorted_place.Given as goal

abbrev pub invariant-loop-place : goal.invariant-loop-place
invariant-loop-place l = GivenRise l.rows l.place l.last
