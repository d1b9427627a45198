-- What a reader of journals answers, and what its definitions say.
use Rattle.std.proofs.Common.{◌≡◌, ℕ, ◌↔◌, Option, Some, None, Result, Ok, Err, List, [], ◌∷◌, ◌++◌, All, refl, sym, ap, ap₂, ◌∙◌, subst}
use Rattle.std.specs.Prelude.{flat_map, IfOk}
use Rattle.s2ix_bag_pairs.specs.declared.limits.Limits.{Limits}
use Rattle.s2ix_bag_pairs.specs.declared.pair.Entry.{Entry}
use Rattle.s2ix_text_write.specs.declared.version.Version.{Version}
use Rattle.s2ix_text_write.specs.Version.{greatest_in, journal_header, journal_version}
use Rattle.s2ix_text_write.specs.Journal.{IsJournalText, IsWritableIn, group_text, journal_in, last_line}
use Rattle.s2ix_text_write.proofs.Journals.{one_journal}
use Rattle.s2ix_text_write.proofs.Versions.{journal_header_named}
use Rattle.s2ix_text_parts.specs.LineFaults.{fault_below}
use Rattle.s2ix_text_parts.specs.Lines.{lines_of}
use Rattle.s2ix_text_parts.proofs.FirstFault.{place}
use Rattle.s2ix_text_parts.proofs.NoFault.{none_among}
use Rattle.s2ix_text.specs.declared.journal_error.JournalError.{JournalError}
use Rattle.s2ix_text.specs.declared.journal_error.JournalError.TheVariants.{At, OutOfMemory}
use Rattle.s2ix_text.specs.declared.journal_error.JournalFault.{JournalFault}
use Rattle.s2ix_text.specs.JournalFaults.{IsJournalError, journal_fault, line_fault}
use Rattle.s2ix_text.specs.Journals.{AreGroups, IsJournal}
use Rattle.s2ix_text.proofs.WholeJournals.{groups_writable, journal_is_sound, journal_of_groups, sound_is_journal}

-- what is read below a version's header is a journal with its text
abbrev pub IsJournalIn : Limits → List ℕ → List (List Entry) → Type 0
IsJournalIn limits text cs = IsJournal limits cs × IsJournalText text cs

put_together : (version : Version) (limits : Limits) (text header below : List ℕ) (cs : List (List Entry)) → text ≡ header ++ 10 ∷ below
    → header ≡ journal_header version
    → AreGroups (greatest_in version) limits cs → below ≡ flat_map group_text cs ++ last_line cs → IsJournalIn limits text cs
unfolding journal_in
put_together version limits text header below cs cut is are parts =
    let whole : text ≡ journal_in version cs = cut ∙ ap₂ (λ (h b : List ℕ). h ++ 10 ∷ b) is parts in
    (journal_of_groups version limits cs are.groups are.within_limit, (version, groups_writable version limits cs are.groups, whole))

pub read_below : {X Y : Type 0} (r : Result X Y) (list : X → List (List Entry)) (version : Version) (most : ℕ) (limits : Limits)
    (text header below : List ℕ)
    → journal_version header ≡ Some version → most ≡ greatest_in version → text ≡ header ++ 10 ∷ below
    → IfOk r (λ x. AreGroups most limits (list x)) → IfOk r (λ x. below ≡ flat_map group_text (list x) ++ last_line (list x))
    → IfOk r (λ x. IsJournalIn limits text (list x))
read_below (Ok x) list version most limits text header below named own cut are parts =
    put_together version limits text header below (list x) cut (journal_header_named header version named)
    (subst (λ m. AreGroups m limits (list x)) own are) parts
read_below (Err e) list version most limits text header below named own cut are parts = tt

-- a journal within the limits is not refused
pub no_fault : (limits : Limits) (text : List ℕ) (cs : List (List Entry)) → IsJournal limits cs → IsJournalText text cs
    → journal_fault limits text ≡ None
no_fault limits text cs is same = ap (journal_fault limits) same.2 ∙ journal_is_sound limits cs is same.0 same.1

pub never_refused : (limits : Limits) (text : List ℕ) (cs : List (List Entry)) (found : ℕ × JournalFault) → IsJournal limits cs
    → IsJournalText text cs → journal_fault limits text ≡ Some found → ⊥
never_refused limits text cs found is same refused =
    let clash : ◌≡◌ {A = Option (ℕ × JournalFault)} (Some found) None = sym refused ∙ no_fault limits text cs is same in cc

pub only_memory : (limits : Limits) (text : List ℕ) (cs : List (List Entry)) (error : JournalError) → IsJournal limits cs
    → IsJournalText text cs → IsJournalError error (journal_fault limits text) → error ≡ OutOfMemory
only_memory limits text cs OutOfMemory is same refused = refl
only_memory limits text cs (At line fault) is same refused = absurd (never_refused limits text cs (line, fault) is same refused)

-- ---- laws

pub journals_have_no_fault : (limits : Limits) (text : List ℕ)
    → (journal_fault limits text ≡ None) ↔ ((changes : List (List Entry)) × IsJournal limits changes × IsJournalText text changes)
journals_have_no_fault limits text = (sound_is_journal limits text, λ journal. no_fault limits text journal.0 journal.1 journal.2)

pub written_journals_are_read_back : (limits : Limits) (changes : List (List Entry)) → IsJournal limits changes → (version : Version)
    → All (IsWritableIn version) changes
    → (journal_fault limits (journal_in version changes) ≡ None)
    × ((others : List (List Entry)) → IsJournal limits others → IsJournalText (journal_in version changes) others → changes ≡ others)
written_journals_are_read_back limits changes is version are = (
  journal_is_sound limits changes is version are,
  λ others others_are same. one_journal (journal_in version changes) changes others
      (version, are, refl) same,
)

pub no_faulty_journal_line_is_accepted : (limits : Limits) (text : List ℕ) → journal_fault limits text ≡ None
    → (above : List (List ℕ)) (line : List ℕ) (below : List (List ℕ)) → lines_of text ≡ above ++ line ∷ below
    → line_fault (place limits above line below) ≡ None
unfolding journal_fault
no_faulty_journal_line_is_accepted limits text none above line below are =
    none_among line_fault limits [] above line below (ap (fault_below line_fault limits []) (sym are) ∙ none)
