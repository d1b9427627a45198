-- What the definitions say of one another: each of these is proved, and told in a sentence, by the function of `laws` of its name.
use Rattle.std.specs.Prelude.{◌≡◌, ℕ, true, None, Some, Ok, List, slice_get}
use Rattle.s2ix_bag_pairs.specs.Collection.{Collection, LimitedCollection}
use Rattle.s2ix_bag_pairs.specs.declared.limits.Limits.{Limits}
use Rattle.s2ix_edit_plan.specs.State.{State, history_of}
use Rattle.s2ix_bag.specs.Replay.{replay_refusal, replayed, rewind_refusal, rewound}
use Rattle.s2ix_edit_store.specs.Steps.{with_held}
use Rattle.s2ix_edit_store.specs.Store.{IsStore}
use Rattle.s2ix_text_write.specs.Dump.{dump_text}
use Rattle.s2ix_cli_files.specs.Answers.{Answer, DiffAnswers, ReplayAnswers, RewindAnswers}
use Rattle.s2ix_cli_files.specs.Reads.{DumpReads}

-- what is answered to a dump, and then to what that answer writes, is the dump that is written of the collection read first
abbrev pub ComesBack : (Limits → List ℕ → List ℕ → Answer → Type 0) → (Limits → List ℕ → List ℕ → Answer → Type 0) → Type 0
ComesBack There Back =
    (limits : Limits) (dump journal : List ℕ) (answer : Answer) → There limits dump journal answer → answer.accepted ≡ true
    → (bag : LimitedCollection) × DumpReads limits dump (Ok bag)
    × Back limits answer.text journal (record { text = dump_text bag.held; accepted = true })

-- and if the first dump is one that is written, it comes back byte for byte
abbrev pub BytesComeBack : (Limits → List ℕ → List ℕ → Answer → Type 0) → (Limits → List ℕ → List ℕ → Answer → Type 0) → Type 0
BytesComeBack There Back =
    (limits : Limits) (hs : Collection) (journal : List ℕ) (answer : Answer) → There limits (dump_text hs) journal answer
    → answer.accepted ≡ true
    → Back limits answer.text journal (record { text = dump_text hs; accepted = true })

-- the change between two dumps, if both are accepted, leads from the collection of the first to that of the second, and back
abbrev pub DiffsLead : Type 0
DiffsLead =
    (limits : Limits) (first second : List ℕ) (answer : Answer) → DiffAnswers limits first second answer → answer.accepted ≡ true
    → (old new : LimitedCollection) × DumpReads limits first (Ok old) × DumpReads limits second (Ok new)
    × ReplayAnswers limits first answer.text (record { text = dump_text new.held; accepted = true })
    × RewindAnswers limits second answer.text (record { text = dump_text old.held; accepted = true })

abbrev pub DoneLeadsFromFirst : Type 0
DoneLeadsFromFirst =
    (s : State) (first : Collection) → IsStore s → slice_get (history_of s).collections 0 ≡ Some first
    → (replay_refusal (with_held s.bag first) s.done ≡ None) × (replayed (with_held s.bag first) s.done ≡ s.bag)

abbrev pub DoneLeadsBackToFirst : Type 0
DoneLeadsBackToFirst =
    (s : State) (first : Collection) → IsStore s → slice_get (history_of s).collections 0 ≡ Some first
    → (rewind_refusal s.bag s.done ≡ None) × (rewound s.bag s.done ≡ with_held s.bag first)

-- exactly one thing is so
abbrev pub HasOne : {A : Type 0} → (A → Type 0) → Type 0
HasOne {A} Is = (one : A) × Is one × ((other : A) → Is other → other ≡ one)
