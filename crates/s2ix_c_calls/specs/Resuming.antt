-- Stores that go on from texts, and why they don't.
use Rattle.std.specs.Prelude.{◌≡◌, ◌≢◌, ◌↔◌, ◌⊎◌, ℕ, ◌<◌, ◌≤◌, ◌-◌, Option, Some, None, List, length, take}
use Rattle.s2ix_bag.specs.Replay.{first_refusal, way_back, with_numbers}
use Rattle.s2ix_bag_pairs.specs.Collection.{LimitedCollection}
use Rattle.s2ix_bag_pairs.specs.declared.limits.Limits.{Limits}
use Rattle.s2ix_bag_pairs.specs.declared.pair.Entry.{Entry}
use Rattle.s2ix_bag_pairs.specs.Limits.{changes_limit}
use Rattle.s2ix_edit_plan.specs.State.{State}
use Rattle.s2ix_edit_store.specs.declared.history_error.HistoryError.{HistoryError}
use Rattle.s2ix_edit_store.specs.declared.history_error.HistoryError.TheVariants.{OutOfMemory}
use Rattle.s2ix_edit_store.specs.Given.{IsHistoryError, after_apply, apply_size, given_refusal, history_refusal, led_by, record_refusal}
use Rattle.s2ix_edit_store.specs.Steps.{after_join, joined_last}
use Rattle.s2ix_text.specs.DumpFaults.{IsDumpError, dump_fault}
use Rattle.s2ix_text.specs.JournalFaults.{IsJournalError, journal_fault}
use Rattle.s2ix_text_write.specs.Journal.{IsJournalText}
use Rattle.s2ix_c_calls.specs.declared.replaying.LedError.{LedError}
use Rattle.s2ix_c_calls.specs.declared.replaying.LedError.TheVariants.{Dump, Journal, Replay, History}
use Rattle.s2ix_c_calls.specs.declared.replaying.Refused.{Refused}
use Rattle.s2ix_c_calls.specs.Replaying.{AreTexts, OfLimits, refused_at, refused_by}
use Rattle.s2ix_c_calls.specs.Status.{done, out_of_memory, too_few_changes}

-- the store stands at a dump's collection, to which a journal's changes led
abbrev pub Resumes : Limits → List ℕ → List ℕ → State → Type 0
Resumes limits dump journal s =
    AreTexts limits dump journal (λ bag changes. (history_refusal bag changes ≡ None) × (s ≡ led_by bag changes))

-- changes are refused as those that led to a bag, or memory is wanted for them, and the one that is taken back first is not refused
abbrev pub IsPastError : HistoryError → LimitedCollection → List (List Entry) → Type 0
IsPastError error bag changes =
    IsHistoryError error (history_refusal bag changes)
    × (error ≡ OutOfMemory → (record_refusal (changes_limit bag.limits) changes ≡ None)
    × (first_refusal bag (take 1 (way_back (with_numbers changes))) ≡ None))

-- why no store goes on from a dump and a journal: the dump is not read; the journal isn't, below a dump that is; or the changes are refused
abbrev pub IsResumeError : Limits → List ℕ → List ℕ → LedError → Type 0
IsResumeError limits dump journal (Dump error) = IsDumpError error (dump_fault limits dump)
IsResumeError limits dump journal (Journal error) =
    (dump_fault limits dump ≡ None) × IsJournalError error (journal_fault limits journal)
IsResumeError limits dump journal (Replay error) = ⊥
IsResumeError limits dump journal (History error) = AreTexts limits dump journal (IsPastError error)

-- the handle is open, and its store goes on from a dump and a journal under the limits with these numbers
abbrev pub OpensResumed : List ℕ → List ℕ → ℕ → ℕ → ℕ → Option State → Type 0
OpensResumed dump journal pairs copies changes new =
    OfLimits pairs copies changes (λ limits. (s : State) × Resumes limits dump journal s × (new ≡ Some s))

-- why no store goes on from them under these limits
abbrev pub RefusesResumed : List ℕ → List ℕ → ℕ → ℕ → ℕ → Refused → Type 0
RefusesResumed dump journal pairs copies changes refused =
    OfLimits pairs copies changes (λ limits. (error : LedError) × IsResumeError limits dump journal error × (refused ≡ refused_by error))

-- the text is a journal without a fault under a store's limits, and P holds of its changes
abbrev pub IsJournalFor : State → List ℕ → (List (List Entry) → Type 0) → Type 0
IsJournalFor s journal P =
    (journal_fault s.bag.limits journal ≡ None) × (changes : List (List Entry)) × IsJournalText journal changes × P changes

-- a store has done a journal's changes
abbrev pub Applies : List ℕ → ℕ → State → State → Type 0
Applies journal number s t =
    IsJournalFor s journal (λ changes. (given_refusal s changes ≡ None) × (t ≡ after_apply s changes) × (number ≡ apply_size s changes))

-- changes are refused as those that a store is to do, or memory is wanted for them, and the first is not refused
abbrev pub IsNextError : HistoryError → State → List (List Entry) → Type 0
IsNextError error s changes =
    IsHistoryError error (given_refusal s changes)
    × (error ≡ OutOfMemory → (record_refusal (changes_limit s.bag.limits - length s.done) changes ≡ None)
    × (first_refusal s.bag (take 1 (with_numbers changes)) ≡ None))

-- why a store doesn't do a journal's changes: the journal is not read; or they are refused
abbrev pub IsApplyError : State → List ℕ → LedError → Type 0
IsApplyError s journal (Dump error) = ⊥
IsApplyError s journal (Journal error) = IsJournalError error (journal_fault s.bag.limits journal)
IsApplyError s journal (Replay error) = ⊥
IsApplyError s journal (History error) = IsJournalFor s journal (IsNextError error s)

-- a journal's changes, done by a store: all of them; or the store is as it was, and the status says why, with two numbers
pub record IsApplied (journal : List ℕ) (status number place entry : ℕ) (s t : State) : Type 0 where
  pub accepted : status ≡ done → Applies journal number s t × (place ≡ 0) × (entry ≡ 0)
  pub unchanged : status ≢ done → (t ≡ s) × (number ≡ 0)
  pub refused : status ≢ done → (error : LedError) × IsApplyError s journal error × (refused_at status place entry ≡ refused_by error)

-- the last changes of a store, so many, become one; or it is as it was, and the status says why
pub record IsJoined (last status number : ℕ) (s t : State) : Type 0 where
  pub accepted : status ≡ done → (t ≡ after_join s last) × (number ≡ length (joined_last s last))
  pub refused : status ≢ done → (t ≡ s) × (number ≡ 0) × ((status ≡ too_few_changes) ⊎ (status ≡ out_of_memory))
  pub too_few : (status ≡ too_few_changes) ↔ (length s.done < last)
  pub nothing : last ≤ 1 → (t ≡ s) × (status ≢ out_of_memory)
