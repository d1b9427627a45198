-- The journal of a list of changes.
use Rattle.std.specs.Prelude.{◌≡◌, ℕ, ◌≤◌, codes, decimal, List, [], ◌∷◌, ◌++◌, length, flat_map, All}
use Rattle.std.specs.List.{concat}
use Rattle.s2id_core.specs.CellId.{raw_of}
use Rattle.s2id_core.specs.Token.{canonical_token}
use Rattle.s2ix_bag_pairs.specs.declared.pair.Entry.{Entry}
use Rattle.s2ix_bag_pairs.specs.Label.{value_of}
use Rattle.s2ix_text_write.specs.declared.version.Version.{Version}
use Rattle.s2ix_text_write.specs.declared.version.Version.TheVariants.{Second}
use Rattle.s2ix_text_write.specs.Version.{greatest_in, journal_header}

-- the line of an entry: TOKEN LABEL BEFORE AFTER
unfoldable pub entry_line : Entry → List ℕ
entry_line e =
    concat
    (canonical_token (raw_of e.pair.cell) ∷ codes " " ∷ decimal (value_of e.pair.label) ∷ codes " " ∷ decimal e.before ∷ codes " "
    ∷ decimal e.after ∷ codes "\n" ∷ [])

-- the line above the entries of a change: change N
unfoldable pub change_line : List Entry → List ℕ
change_line es = concat (codes "change " ∷ decimal (length es) ∷ codes "\n" ∷ [])

-- the group of a change: the line that counts its entries, and a line for each of them
unfoldable pub group_text : List Entry → List ℕ
group_text es = change_line es ++ flat_map entry_line es

-- the last line: end CHANGES
unfoldable pub last_line : List (List Entry) → List ℕ
last_line changes = concat (codes "end " ∷ decimal (length changes) ∷ codes "\n" ∷ [])

-- the journal of a list of changes in a version: the header, a group for each change, the oldest first, and the end line
unfoldable pub journal_in : Version → List (List Entry) → List ℕ
journal_in version changes = journal_header version ++ 10 ∷ (flat_map group_text changes ++ last_line changes)

-- the journal that is written: in the second version
abbrev pub journal_text : List (List Entry) → List ℕ
journal_text changes = journal_in Second changes

-- a change that a journal can hold in a version
pub record IsWritableIn (version : Version) (es : List Entry) : Type 0 where
  pub some : 1 ≤ length es
  pub within_limit : length es ≤ 2000000
  pub small_before : All (λ e. e.before ≤ greatest_in version) es
  pub small_after : All (λ e. e.after ≤ greatest_in version) es

-- a change that can be written
abbrev pub IsWritable : List Entry → Type 0
IsWritable es = IsWritableIn Second es

-- a text is a journal of a list of changes, in a version that can hold them
abbrev pub IsJournalText : List ℕ → List (List Entry) → Type 0
IsJournalText text changes = (version : Version) × All (IsWritableIn version) changes × (text ≡ journal_in version changes)
