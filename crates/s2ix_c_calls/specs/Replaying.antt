-- Where a dump and a journal lead, and why they lead nowhere.
use Rattle.std.specs.Prelude.{◌≡◌, ◌≢◌, ℕ, Option, Some, None, List, take}
use Rattle.s2ix_bag.specs.declared.replay_error.ReplayError.{ReplayError}
use Rattle.s2ix_bag.specs.declared.replay_error.ReplayError.TheVariants as replay
use Rattle.s2ix_bag.specs.Replay.{IsReplayError, first_refusal, replay_refusal, replayed, rewind_refusal, rewound, way_back, with_numbers}
use Rattle.s2ix_bag_pairs.specs.Collection.{Collection, LimitedCollection}
use Rattle.s2ix_bag_pairs.specs.declared.limits.Limits.{Limits}
use Rattle.s2ix_bag_pairs.specs.declared.pair.Entry.{Entry}
use Rattle.s2ix_bag_pairs.specs.Limits.{pairs_limit, count_limit, changes_limit}
use Rattle.s2ix_edit_plan.specs.State.{State, starting_at}
use Rattle.s2ix_edit_store.specs.declared.history_error.HistoryError.TheVariants as history
use Rattle.s2ix_text.specs.declared.dump_error.DumpError.TheVariants as dump_error
use Rattle.s2ix_text.specs.DumpFaults.{IsDumpError, dump_fault}
use Rattle.s2ix_text.specs.declared.journal_error.JournalError.TheVariants as journal_error
use Rattle.s2ix_text.specs.JournalFaults.{IsJournalError, journal_fault}
use Rattle.s2ix_text_write.specs.Dump.{IsDump}
use Rattle.s2ix_text_write.specs.Journal.{IsJournalText}
use Rattle.s2ix_c_calls.specs.declared.replaying.Direction.{Direction}
use Rattle.s2ix_c_calls.specs.declared.replaying.Direction.TheVariants.{Forward, Back}
use Rattle.s2ix_c_calls.specs.declared.replaying.LedError.{LedError}
use Rattle.s2ix_c_calls.specs.declared.replaying.LedError.TheVariants.{Dump, Journal, Replay, History}
use Rattle.s2ix_c_calls.specs.declared.replaying.Refused.{Refused}
use Rattle.s2ix_c_calls.specs.Status.{done, journal_full, mismatch, no_change, no_dump, no_journal, no_limits, out_of_memory, too_many_copies, too_many_pairs}

-- the bag to which changes lead from another
abbrev pub led_by : Direction → LimitedCollection → List (List Entry) → LimitedCollection
led_by Forward = replayed
led_by Back = rewound

-- the first refusal of any of the changes
abbrev pub refusal_by : Direction → LimitedCollection → List (List Entry) → Option ReplayError
refusal_by Forward = replay_refusal
refusal_by Back = rewind_refusal

-- the refusal of the change that is made first: the first of the journal if changes are done, the last if they are taken back
abbrev pub first_refusal_by : Direction → LimitedCollection → List (List Entry) → Option ReplayError
first_refusal_by Forward start changes = first_refusal start (take 1 (with_numbers changes))
first_refusal_by Back start changes = first_refusal start (take 1 (way_back (with_numbers changes)))

-- one text is a dump and the other a journal, neither has a fault under these limits, and P holds of the bag under them and of the changes
abbrev pub AreTexts : Limits → List ℕ → List ℕ → (LimitedCollection → List (List Entry) → Type 0) → Type 0
AreTexts limits dump journal P =
    (dump_fault limits dump ≡ None) × (journal_fault limits journal ≡ None)
    × (hs : Collection) × IsDump dump hs × (changes : List (List Entry)) × IsJournalText journal changes
    × P (record { limits = limits; held = hs }) changes

-- a dump and a journal lead to a bag
abbrev pub LeadTo : Direction → Limits → List ℕ → List ℕ → LimitedCollection → Type 0
LeadTo direction limits dump journal bag =
    AreTexts limits dump journal (λ start changes. (refusal_by direction start changes ≡ None) × (bag ≡ led_by direction start changes))

-- a change is refused, or memory is wanted for the changes, the first of which is not refused
abbrev pub IsChangeError : Direction → ReplayError → LimitedCollection → List (List Entry) → Type 0
IsChangeError direction error start changes =
    IsReplayError error (refusal_by direction start changes)
    × (error ≡ replay.OutOfMemory → first_refusal_by direction start changes ≡ None)

-- why a dump and a journal lead to no bag: the dump is not read; the journal isn't, below a dump that is; or a change is refused. Want of
-- memory never comes in place of a fault on the first line of the text that is read, nor of the refusal of the change that is made first
abbrev pub IsLedError : Direction → Limits → List ℕ → List ℕ → LedError → Type 0
IsLedError direction limits dump journal (Dump error) = IsDumpError error (dump_fault limits dump)
IsLedError direction limits dump journal (Journal error) =
    (dump_fault limits dump ≡ None) × IsJournalError error (journal_fault limits journal)
IsLedError direction limits dump journal (Replay error) = AreTexts limits dump journal (IsChangeError direction error)
IsLedError direction limits dump journal (History error) = ⊥

-- a status, and the two numbers that say what it is about
abbrev pub refused_at : ℕ → ℕ → ℕ → Refused
refused_at status place entry = record { status = status; place = place; entry = entry }

-- what an error tells: its status; the line of a fault or the number of a change; and the number of the entry whose count is not the bag's
abbrev pub refused_by : LedError → Refused
refused_by (Dump (dump_error.At line fault)) = refused_at no_dump line 0
refused_by (Dump dump_error.OutOfMemory) = refused_at out_of_memory 0 0
refused_by (Journal (journal_error.At line fault)) = refused_at no_journal line 0
refused_by (Journal journal_error.OutOfMemory) = refused_at out_of_memory 0 0
refused_by (Replay (replay.Mismatch change entry)) = refused_at mismatch change entry
refused_by (Replay (replay.TooManyCopies change)) = refused_at too_many_copies change 0
refused_by (Replay (replay.TooManyPairs change)) = refused_at too_many_pairs change 0
refused_by (Replay replay.OutOfMemory) = refused_at out_of_memory 0 0
refused_by (History history.JournalFull) = refused_at journal_full 0 0
refused_by (History (history.NoChange change)) = refused_at no_change change 0
refused_by (History (history.Mismatch change entry)) = refused_at mismatch change entry
refused_by (History (history.TooManyCopies change)) = refused_at too_many_copies change 0
refused_by (History (history.TooManyPairs change)) = refused_at too_many_pairs change 0
refused_by (History history.OutOfMemory) = refused_at out_of_memory 0 0

-- the status of what texts are refused for is neither of these
abbrev pub IsOfTexts : ℕ → Type 0
IsOfTexts status = (status ≢ done) × (status ≢ no_limits)

-- P holds of the limits with these numbers
abbrev pub OfLimits : ℕ → ℕ → ℕ → (Limits → Type 0) → Type 0
OfLimits pairs copies changes P =
    (limits : Limits) × (pairs_limit limits ≡ pairs) × (count_limit limits ≡ copies) × (changes_limit limits ≡ changes) × P limits

-- the handle is open, and its store starts from the bag that a dump and a journal lead to under the limits with these numbers
abbrev pub OpensLed : Direction → List ℕ → List ℕ → ℕ → ℕ → ℕ → Option State → Type 0
OpensLed direction dump journal pairs copies changes new =
    OfLimits pairs copies changes (λ limits. (bag : LimitedCollection) × LeadTo direction limits dump journal bag × (new ≡ Some (starting_at bag)))

-- why they lead to no bag under these limits
abbrev pub RefusesIn : Direction → List ℕ → List ℕ → ℕ → ℕ → ℕ → Refused → Type 0
RefusesIn direction dump journal pairs copies changes refused =
    OfLimits pairs copies changes (λ limits. (error : LedError) × IsLedError direction limits dump journal error × (refused ≡ refused_by error))
