-- The cells up to a place.
use Rattle.s2ix_c_calls.proofs.Follows.{IsFront}
use Rattle.s2ix_c_calls.proofs.following.write_following.Given as goal

abbrev pub invariant-loop-place : goal.invariant-loop-place
invariant-loop-place l = IsFront l.ids l.room l.place l.end
