-- What the definitions of texts say, in other words: each of these is proved, and told in a sentence, by the function of `laws` of its
-- name.
use Rattle.std.specs.Prelude.{◌≡◌, ℕ, List, All}
use Rattle.s2ix_bag_pairs.specs.declared.pair.Entry.{Entry}
use Rattle.s2ix_bag_pairs.specs.Collection.{Collection, LimitedCollection, IsBag}
use Rattle.s2ix_text_write.specs.declared.version.Version.{Version}
use Rattle.s2ix_text_write.specs.Dump.{IsDump, dump_in, dump_text}
use Rattle.s2ix_text_write.specs.Journal.{IsJournalText, IsWritable, journal_in, journal_text}

abbrev pub DumpsTellCollectionsApart : Type 0
DumpsTellCollectionsApart = (text : List ℕ) (hs ks : Collection) → IsDump text hs → IsDump text ks → hs ≡ ks

abbrev pub DumpsTellBagsApart : Type 0
DumpsTellBagsApart =
    (bag other : LimitedCollection) → IsBag bag → IsBag other → dump_text bag.held ≡ dump_text other.held → bag.held ≡ other.held

abbrev pub DumpsTellVersionsApart : Type 0
DumpsTellVersionsApart = (version other : Version) (hs ks : Collection) → dump_in version hs ≡ dump_in other ks → version ≡ other

abbrev pub BagsHaveDumps : Type 0
BagsHaveDumps = (bag : LimitedCollection) → IsBag bag → IsDump (dump_text bag.held) bag.held

abbrev pub JournalsTellListsApart : Type 0
JournalsTellListsApart = (text : List ℕ) (cs ds : List (List Entry)) → IsJournalText text cs → IsJournalText text ds → cs ≡ ds

abbrev pub JournalsTellVersionsApart : Type 0
JournalsTellVersionsApart =
    (version other : Version) (cs ds : List (List Entry)) → journal_in version cs ≡ journal_in other ds → version ≡ other

abbrev pub WritableChangesHaveJournals : Type 0
WritableChangesHaveJournals = (cs : List (List Entry)) → All IsWritable cs → IsJournalText (journal_text cs) cs
