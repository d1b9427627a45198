-- What texts come to: a bag, or the first thing in them that is refused.
use Rattle.std.specs.Prelude.{◌≡◌, ◌⊎◌, ℕ, Option, Some, None, List, Result, Ok, Err}
use Rattle.std.specs.Option.{option_map}
use Rattle.s2ix_bag_pairs.specs.Collection.{LimitedCollection, IsBag}
use Rattle.s2ix_bag_pairs.specs.declared.limits.Limits.{Limits}
use Rattle.s2ix_bag_pairs.specs.declared.pair.Entry.{Entry}
use Rattle.s2ix_text.specs.declared.dump_error.DumpFault.{DumpFault}
use Rattle.s2ix_text.specs.DumpFaults.{dump_fault}
use Rattle.s2ix_text.specs.declared.journal_error.JournalFault.{JournalFault}
use Rattle.s2ix_text.specs.JournalFaults.{journal_fault}
use Rattle.s2ix_text.specs.Journals.{IsJournal}
use Rattle.s2ix_bag.specs.declared.replay_error.ReplayError.{ReplayError}
use Rattle.s2ix_bag.specs.Replay.{replay_refusal, replayed, rewind_refusal, rewound}
use Rattle.s2ix_text_write.specs.Dump.{IsDump}
use Rattle.s2ix_text_write.specs.Journal.{IsJournalText}
use Rattle.s2ix_cli_files.specs.declared.refusal.Refusal.{Refusal}
use Rattle.s2ix_cli_files.specs.declared.refusal.Refusal.TheVariants.{Dump, Second, Journal}
use Rattle.s2ix_cli_files.specs.declared.refusal.TextsError.TheVariants.{Refused}
use Rattle.s2ix_bag_pairs.specs.Change.{change_between}
use Rattle.s2ix_edit_plan.specs.State.{State}
use Rattle.s2ix_edit_store.specs.Given.{led_by}
use Rattle.s2ix_cli_files.specs.Refusals.{error_of_replay}

-- ---- one text

-- what a text comes to when it is read: what it is the text of, or the refusal of its first fault
abbrev pub ReadsAs : {A : Type 0} → (A → Type 0) → Option Refusal → Result A Refusal → Type 0
ReadsAs IsTextOf refusal (Ok a) = IsTextOf a
ReadsAs IsTextOf refusal (Err found) = refusal ≡ Some found

-- the refusal of a dump's fault
abbrev pub dump_refusal : ℕ × DumpFault → Refusal
dump_refusal found = Dump found.0 found.1

-- a text is a dump of a bag with these limits
abbrev pub IsDumpOf : Limits → List ℕ → LimitedCollection → Type 0
IsDumpOf limits text bag = IsBag bag × (bag.limits ≡ limits) × IsDump text bag.held

-- a text that is read as a dump under limits
abbrev pub DumpReads : Limits → List ℕ → Result LimitedCollection Refusal → Type 0
DumpReads limits text = ReadsAs (IsDumpOf limits text) (option_map dump_refusal (dump_fault limits text))

-- the refusal of a fault of the second of two dumps
abbrev pub second_refusal : ℕ × DumpFault → Refusal
second_refusal found = Second found.0 found.1

-- a text that is read under limits as the second of two dumps
abbrev pub SecondReads : Limits → List ℕ → Result LimitedCollection Refusal → Type 0
SecondReads limits text = ReadsAs (IsDumpOf limits text) (option_map second_refusal (dump_fault limits text))

-- the refusal of a journal's fault
abbrev pub journal_refusal : ℕ × JournalFault → Refusal
journal_refusal found = Journal found.0 found.1

-- a text is a journal of changes within these limits
abbrev pub IsJournalOf : Limits → List ℕ → List (List Entry) → Type 0
IsJournalOf limits text changes = IsJournal limits changes × IsJournalText text changes

-- a text that is read as a journal under limits
abbrev pub JournalReads : Limits → List ℕ → Result (List (List Entry)) Refusal → Type 0
JournalReads limits text = ReadsAs (IsJournalOf limits text) (option_map journal_refusal (journal_fault limits text))

-- ---- a dump and a journal

-- what changes come to, of which the first refusal is this one: the bag that they lead to, or that refusal
abbrev pub EndsIn : Option ReplayError → LimitedCollection → Result LimitedCollection Refusal → Type 0
EndsIn refusal bag (Ok reached) = (refusal ≡ None) × (reached ≡ bag)
EndsIn refusal bag (Err found) = option_map error_of_replay refusal ≡ Some (Refused found)

-- what a bag and changes come to
abbrev pub Leading : Type 1
Leading = LimitedCollection → List (List Entry) → Result LimitedCollection Refusal → Type 0

-- changes that are done to a bag
abbrev pub ReplayLeads : Leading
ReplayLeads bag changes = EndsIn (replay_refusal bag changes) (replayed bag changes)

-- changes that are taken back from a bag
abbrev pub RewindLeads : Leading
RewindLeads bag changes = EndsIn (rewind_refusal bag changes) (rewound bag changes)

-- one thing first, and then the next, which goes on from what the first came to; a refusal of the first decides
abbrev pub Then : {A B : Type 0} → (Result A Refusal → Type 0) → (A → Result B Refusal → Type 0) → Result B Refusal → Type 0
Then {A} First Next outcome =
    ((a : A) × First (Ok a) × Next a outcome) ⊎ ((refusal : Refusal) × First (Err refusal) × (outcome ≡ Err refusal))

-- first the dump is read, then the journal, and then its changes lead on from the bag
abbrev pub TextsLead : Leading → Limits → List ℕ → List ℕ → Result LimitedCollection Refusal → Type 0
TextsLead Leads limits dump journal = Then (DumpReads limits dump) (λ bag. Then (JournalReads limits journal) (Leads bag))

-- the changes are done
abbrev pub TextsReplay : Limits → List ℕ → List ℕ → Result LimitedCollection Refusal → Type 0
TextsReplay = TextsLead ReplayLeads

-- the changes are taken back
abbrev pub TextsRewind : Limits → List ℕ → List ℕ → Result LimitedCollection Refusal → Type 0
TextsRewind = TextsLead RewindLeads

-- the store that goes on from the bag of a dump, with the changes of a journal done
abbrev pub Resumes : Limits → List ℕ → List ℕ → State → Type 0
Resumes limits dump journal s =
    (bag : LimitedCollection) × (changes : List (List Entry)) × DumpReads limits dump (Ok bag) × JournalReads limits journal (Ok changes)
    × (s ≡ led_by bag changes)

-- ---- two dumps

-- two bags come to the change between them
abbrev pub ComesToChange : LimitedCollection → LimitedCollection → Result (List Entry) Refusal → Type 0
ComesToChange old new outcome = outcome ≡ Ok (change_between old.held new.held)

-- first the one dump is read, then the other, and then comes the change from the one to the other
abbrev pub TextsDiffer : Limits → List ℕ → List ℕ → Result (List Entry) Refusal → Type 0
TextsDiffer limits first second = Then (DumpReads limits first) (λ old. Then (SecondReads limits second) (ComesToChange old))
