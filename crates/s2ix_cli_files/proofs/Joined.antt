-- What a dump and a journal come to.
use Rattle.std.proofs.Common.{◌≡◌, ℕ, Option, Some, List, Result, Ok, Err, OnOk, refl, sym, ap, subst, inl, inr}
use Rattle.std.specs.Option.{option_map}
use Rattle.s2ix_bag_pairs.specs.Collection.{LimitedCollection}
use Rattle.s2ix_bag_pairs.specs.declared.limits.Limits.{Limits}
use Rattle.s2ix_bag_pairs.specs.declared.pair.Entry.{Entry}
use Rattle.s2ix_bag.specs.declared.replay_error.ReplayError.{ReplayError}
use Rattle.s2ix_bag.specs.declared.replay_error.ReplayError.TheVariants.{Mismatch, TooManyCopies, TooManyPairs, OutOfMemory}
use Rattle.s2ix_bag.specs.Replay.{IsReplayError}
use Rattle.s2ix_cli_files.specs.declared.refusal.Refusal.{Refusal}
use Rattle.s2ix_cli_files.specs.declared.refusal.TextsError.{TextsError}
use Rattle.s2ix_cli_files.specs.declared.refusal.TextsError.TheVariants as texts
use Rattle.s2ix_cli_files.specs.Reads.{DumpReads, JournalReads, Leading, Then, TextsLead}
use Rattle.s2ix_cli_files.specs.Refusals.{IsRefusedBy, error_of_replay}

-- what follows from what an answer brings
pub if_ok : {A E : Type 0} (result : Result A E) (P Q : Type 0) → (P → Q) → OnOk result P → OnOk result Q
if_ok (Ok a) P Q follows holds = follows holds
if_ok (Err e) P Q follows holds = tt

-- an error of the first decides
pub refused_first : {A B : Type 0} (First : Result A Refusal → Type 0) (Next : A → Result B Refusal → Type 0) (error : TextsError)
    → IsRefusedBy First error → IsRefusedBy (Then First Next) error
refused_first First Next (texts.Refused refusal) first = inr (refusal, first, refl)
refused_first First Next texts.OutOfMemory first = tt

-- an error of the next, if the first came to a value
pub refused_next : {A B : Type 0} (First : Result A Refusal → Type 0) (Next : A → Result B Refusal → Type 0) (a : A) (error : TextsError)
    → First (Ok a) → IsRefusedBy (Next a) error → IsRefusedBy (Then First Next) error
refused_next First Next a (texts.Refused refusal) first next = inl (a, first, next)
refused_next First Next a texts.OutOfMemory first next = tt

-- an error of changes, as one of the texts
pub refused_changes : {A : Type 0} (ComesTo : Result A Refusal → Type 0) (found : Option ReplayError) (error : ReplayError)
    → ((refusal : Refusal) → option_map error_of_replay found ≡ Some (texts.Refused refusal) → ComesTo (Err refusal))
    → IsReplayError error found → IsRefusedBy ComesTo (error_of_replay error)
refused_changes ComesTo found (Mismatch change entry) comes is = comes _ (ap (option_map error_of_replay) is)
refused_changes ComesTo found (TooManyCopies change) comes is = comes _ (ap (option_map error_of_replay) is)
refused_changes ComesTo found (TooManyPairs change) comes is = comes _ (ap (option_map error_of_replay) is)
refused_changes ComesTo found OutOfMemory comes is = tt

-- an error of the journal, if the dump was read
pub refused_journal : (Leads : Leading) (limits : Limits) (dump journal : List ℕ) (bag : LimitedCollection) (error : TextsError)
    → DumpReads limits dump (Ok bag) → IsRefusedBy (JournalReads limits journal) error
    → IsRefusedBy (TextsLead Leads limits dump journal) error
refused_journal Leads limits dump journal bag error read refused =
    refused_next (DumpReads limits dump) (λ from. Then (JournalReads limits journal) (Leads from)) bag error read
    (refused_first (JournalReads limits journal) (Leads bag) error refused)

-- a journal that was read, of whose changes a slice was made
pub read_as_slice : (limits : Limits) (journal : List ℕ) (changes slice : List (List Entry)) → slice ≡ changes
    → JournalReads limits journal (Ok changes) → JournalReads limits journal (Ok slice)
read_as_slice limits journal changes slice same read = subst (λ (x : List (List Entry)). JournalReads limits journal (Ok x)) (sym same) read

-- an error of the journal's changes, if both were read
pub refused_leading : (Leads : Leading) (limits : Limits) (dump journal : List ℕ) (bag : LimitedCollection) (changes : List (List Entry))
    (found : Option ReplayError) (error : ReplayError)
    → ((refusal : Refusal) → option_map error_of_replay found ≡ Some (texts.Refused refusal) → Leads bag changes (Err refusal))
    → DumpReads limits dump (Ok bag) → JournalReads limits journal (Ok changes) → IsReplayError error found
    → IsRefusedBy (TextsLead Leads limits dump journal) (error_of_replay error)
refused_leading Leads limits dump journal bag changes found error comes read then is =
    refused_next (DumpReads limits dump) (λ from. Then (JournalReads limits journal) (Leads from)) bag (error_of_replay error) read
    (refused_next (JournalReads limits journal) (Leads bag) changes
    (error_of_replay error) then (refused_changes (Leads bag changes) found error comes is))

-- what the changes lead to, if both were read
pub texts_lead : (Leads : Leading) (limits : Limits) (dump journal : List ℕ) (bag : LimitedCollection) (changes : List (List Entry))
    (reached : LimitedCollection)
    → DumpReads limits dump (Ok bag) → JournalReads limits journal (Ok changes) → Leads bag changes (Ok reached)
    → TextsLead Leads limits dump journal (Ok reached)
texts_lead Leads limits dump journal bag changes reached read then leads = inl (bag, read, inl (changes, then, leads))
