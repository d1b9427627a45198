-- What the definitions say of one another: each of these is proved, and told in a sentence, by the function of `laws` of its name.
use Rattle.std.specs.Prelude.{◌≡◌, None, All, List}
use Rattle.s2ix_bag_pairs.specs.declared.pair.Entry.{Entry}
use Rattle.s2ix_bag_pairs.specs.Change.{IsChangeList}
use Rattle.s2ix_bag_pairs.specs.Collection.{LimitedCollection, IsBag}
use Rattle.s2ix_bag.specs.Replay.{replayed, rewound, replay_refusal, rewind_refusal}

abbrev pub RewindTakesReplayBack : Type 0
RewindTakesReplayBack =
    (bag : LimitedCollection) (changes : List (List Entry)) → IsBag bag → All IsChangeList changes → replay_refusal bag changes ≡ None →
    (rewind_refusal (replayed bag changes) changes ≡ None) × (rewound (replayed bag changes) changes ≡ bag)

abbrev pub ReplayTakesRewindBack : Type 0
ReplayTakesRewindBack =
    (bag : LimitedCollection) (changes : List (List Entry)) → IsBag bag → All IsChangeList changes → rewind_refusal bag changes ≡ None →
    (replay_refusal (rewound bag changes) changes ≡ None) × (replayed (rewound bag changes) changes ≡ bag)
