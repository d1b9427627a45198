-- What a call answers about texts, and what it is to tell an answer.
use Rattle.std.specs.Prelude.{◌≡◌, ℕ, Bool, true, false, is_some, codes, decimal, Option, Result, Ok, Err, List, [], ◌∷◌, length}
use Rattle.std.specs.Io.KnownBytes.{Appends, Keeps}
use Rattle.std.specs.List.{concat}
use Rattle.s2ix_bag_pairs.specs.Collection.{LimitedCollection, copies_in}
use Rattle.s2ix_bag_pairs.specs.declared.limits.Limits.{Limits}
use Rattle.s2ix_text_parts.specs.declared.run_fault.RunFault.{RunFault}
use Rattle.s2ix_text_parts.specs.declared.run_fault.RunFault.TheVariants as fault
use Rattle.s2ix_text_parts.specs.declared.sink.Sink.{Ghosts as Sink}
use Rattle.s2ix_text_parts.specs.Puts.{AppendsFront}
use Rattle.s2ix_text_write.specs.Dump.{dump_text}
use Rattle.s2ix_text_write.specs.Journal.{journal_text}
use Rattle.s2ix_bag_pairs.specs.declared.pair.Entry.{Entry}
use Rattle.s2ix_edit_store.specs.Steps.{recorded_alone}
use Rattle.s2ix_cli_files.specs.declared.refusal.Refusal.{Refusal}
use Rattle.s2ix_cli_files.specs.declared.refusal.TextsError.{TextsError}
use Rattle.s2ix_cli_files.specs.declared.refusal.TextsError.TheVariants.{Refused, OutOfMemory}
use Rattle.s2ix_cli_files.specs.Reads.{DumpReads, TextsDiffer, TextsReplay, TextsRewind}
use Rattle.s2ix_cli_files.specs.Refusals.{refusal_line}

-- ---- answers

-- a text that is written, and whether all was accepted
pub record Answer : Type 0 where
  pub text : List ℕ
  pub accepted : Bool

-- what is answered if texts come to a value, which is printed so, or to a refusal, which prints its line
abbrev pub answer_of : {A : Type 0} → (A → List ℕ) → Result A Refusal → Answer
answer_of printed (Ok a) = record { text = printed a; accepted = true }
answer_of printed (Err refusal) = record { text = refusal_line refusal; accepted = false }

-- the answer to texts that come to a value or a refusal
abbrev pub IsAnswerTo : {A : Type 0} → (A → List ℕ) → (Result A Refusal → Type 0) → Answer → Type 0
IsAnswerTo {A} printed ComesTo answer = (outcome : Result A Refusal) × ComesTo outcome × (answer ≡ answer_of printed outcome)

-- the line of a bag that is accepted: ok PAIRS COPIES
abbrev pub counts_line : LimitedCollection → List ℕ
counts_line bag = concat (codes "ok " ∷ decimal (length bag.held) ∷ codes " " ∷ decimal (copies_in bag.held) ∷ codes "\n" ∷ [])

-- nothing is printed of a bag that is loaded
abbrev pub no_text : LimitedCollection → List ℕ
no_text bag = []

-- the answer to a dump that is loaded under limits
abbrev pub LoadAnswers : Limits → List ℕ → Answer → Type 0
LoadAnswers limits text = IsAnswerTo no_text (DumpReads limits text)

-- the answer to a dump that is checked under limits
abbrev pub CheckAnswers : Limits → List ℕ → Answer → Type 0
CheckAnswers limits text = IsAnswerTo counts_line (DumpReads limits text)

-- a bag that changes came to is printed as its dump
abbrev pub dump_of : LimitedCollection → List ℕ
dump_of bag = dump_text bag.held

-- the answer to a dump and a journal that are replayed under limits
abbrev pub ReplayAnswers : Limits → List ℕ → List ℕ → Answer → Type 0
ReplayAnswers limits dump journal = IsAnswerTo dump_of (TextsReplay limits dump journal)

-- the answer to a dump and a journal that are rewound under limits
abbrev pub RewindAnswers : Limits → List ℕ → List ℕ → Answer → Type 0
RewindAnswers limits dump journal = IsAnswerTo dump_of (TextsRewind limits dump journal)

-- the answer to a dump and the journal that led to it, from which a store goes on under limits: if the changes can't be taken back, what is
-- refused is answered as if they were, and else nothing is printed
abbrev pub ResumeAnswers : Limits → List ℕ → List ℕ → Answer → Type 0
ResumeAnswers limits dump journal = IsAnswerTo no_text (TextsRewind limits dump journal)

-- a change is printed as its journal; one without entries as the journal of no changes
abbrev pub journal_of : List Entry → List ℕ
journal_of change = journal_text (recorded_alone change)

-- the answer to two dumps that are compared under limits
abbrev pub DiffAnswers : Limits → List ℕ → List ℕ → Answer → Type 0
DiffAnswers limits first second = IsAnswerTo journal_of (TextsDiffer limits first second)

-- the answer that an error of the texts tells; want of memory tells none
abbrev pub IsRefusalAnswer : TextsError → Answer → Type 0
IsRefusalAnswer (Refused refusal) answer = answer ≡ record { text = refusal_line refusal; accepted = false }
IsRefusalAnswer OutOfMemory answer = ⊥

-- the answer that a value or an error of the texts tells
abbrev pub IsOutcomeAnswer : {A : Type 0} → (A → List ℕ) → Result A TextsError → Answer → Type 0
IsOutcomeAnswer printed (Ok a) answer = answer ≡ answer_of printed (Ok a)
IsOutcomeAnswer printed (Err error) answer = IsRefusalAnswer error answer

-- that of a bag
abbrev pub IsDumpAnswer : Result LimitedCollection TextsError → Answer → Type 0
IsDumpAnswer outcome = IsOutcomeAnswer dump_of outcome

-- that of a change
abbrev pub IsChangeAnswer : Result (List Entry) TextsError → Answer → Type 0
IsChangeAnswer outcome = IsOutcomeAnswer journal_of outcome

-- ---- telling them

-- a text went out whole, and then a flush, the last thing that the sink was asked; with no text the sink was asked nothing
abbrev pub Sends : {K : Type 0} → Sink K → K → K → List ℕ → Type 0
Sends sink old new [] = new ≡ old
Sends {K} sink old new (byte ∷ bytes) =
    (written : K) × Appends (sink.taken old) (sink.taken written) (byte ∷ bytes) × sink.flushes written new
    × Keeps (sink.taken written) (sink.taken new)

-- a call tells the answer: it sends its text, and its own answer is whether all was accepted. If the sink failed, a front of the text
-- went out; if memory was wanted, nothing did
abbrev pub Prints : {K : Type 0} → Sink K → (Answer → Type 0) → K → K → Result Bool RunFault → Type 0
Prints sink IsAnswer old new (Ok accepted) =
    (answer : Answer) × IsAnswer answer × Sends sink old new answer.text × (accepted ≡ answer.accepted)
Prints sink IsAnswer old new (Err fault.Write) =
    (answer : Answer) × IsAnswer answer × AppendsFront (sink.taken old) (sink.taken new) answer.text
Prints sink IsAnswer old new (Err fault.OutOfMemory) = new ≡ old
Prints sink IsAnswer old new (Err fault.Read) = ⊥
Prints sink IsAnswer old new (Err fault.ReaderTooLong) = ⊥

-- the answer of a call that loads: whether there is a store
abbrev pub is_loaded : {A : Type 0} → Result (Option A) RunFault → Result Bool RunFault
is_loaded (Ok loaded) = Ok (is_some loaded)
is_loaded (Err fault) = Err fault
