use Rattle.std.proofs.Common.{◌≡◌, ◌+◌, drop}
use Rattle.s2ix_bag.specs.Replay.{after_changes, first_refusal, numbered_from, replay_refusal, replayed}
use Rattle.s2ix_bag.proofs.replaying.replay.Given as goal

abbrev pub invariant-loop-place : goal.invariant-loop-place
invariant-loop-place l =
    (replay_refusal l.fn.bag l.fn.changes ≡ first_refusal l.reached (numbered_from (l.place + 2) (drop l.place l.rest)))
    × (replayed l.fn.bag l.fn.changes ≡ after_changes l.reached (numbered_from (l.place + 2) (drop l.place l.rest)))
