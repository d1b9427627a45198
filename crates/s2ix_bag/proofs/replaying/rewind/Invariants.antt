use Rattle.std.proofs.Common.{◌≡◌, take}
use Rattle.s2ix_bag.specs.Replay.{rewind_refusal, rewound}
use Rattle.s2ix_bag.proofs.replaying.rewind.Given as goal

abbrev pub invariant-loop-place : goal.invariant-loop-place
invariant-loop-place l =
    (rewind_refusal l.fn.bag l.fn.changes ≡ rewind_refusal l.reached (take l.place l.changes))
    × (rewound l.fn.bag l.fn.changes ≡ rewound l.reached (take l.place l.changes))
