-- What the definitions of journals as they are read say, in other words: each of these is proved, by the function of `laws` of its name.
use Rattle.std.specs.Prelude.{◌≡◌, ◌↔◌, ℕ, not, None, List, ◌∷◌, ◌++◌, All}
use Rattle.s2ix_bag_pairs.specs.declared.limits.Limits.{Limits}
use Rattle.s2ix_bag_pairs.specs.declared.pair.Entry.{Entry}
use Rattle.s2ix_text_write.specs.declared.version.Version.{Version}
use Rattle.s2ix_text_write.specs.Journal.{IsJournalText, IsWritableIn, journal_in}
use Rattle.s2ix_text.specs.JournalFaults.{journal_fault, line_fault}
use Rattle.s2ix_text.specs.Journals.{IsJournal}
use Rattle.s2ix_text_parts.specs.Lines.{is_nil, lines_of}

-- a text has no fault exactly if it is a journal, in either version, of a list of changes within the limits
abbrev pub JournalsHaveNoFault : Type 0
JournalsHaveNoFault =
    (limits : Limits) (text : List ℕ)
    → (journal_fault limits text ≡ None) ↔ ((changes : List (List Entry)) × IsJournal limits changes × IsJournalText text changes)

-- the journal of changes within limits in each version that can hold them has no fault under these limits, and no other such changes have
-- that text
abbrev pub WrittenJournalsAreReadBack : Type 0
WrittenJournalsAreReadBack =
    (limits : Limits) (changes : List (List Entry)) → IsJournal limits changes → (version : Version) → All (IsWritableIn version) changes
    → (journal_fault limits (journal_in version changes) ≡ None)
    × ((others : List (List Entry)) → IsJournal limits others → IsJournalText (journal_in version changes) others → changes ≡ others)

-- no line of a text without a fault has one
abbrev pub NoFaultyJournalLineIsAccepted : Type 0
NoFaultyJournalLineIsAccepted =
    (limits : Limits) (text : List ℕ) → journal_fault limits text ≡ None
    → (above : List (List ℕ)) (line : List ℕ) (below : List (List ℕ)) → lines_of text ≡ above ++ line ∷ below
    → line_fault (record { limits = limits; above = above; line = line; ended = not (is_nil below) }) ≡ None
