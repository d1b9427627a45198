-- The lists of changes that a journal read under limits may have.
use Rattle.std.specs.Prelude.{◌≤◌, ℕ, List, length, All}
use Rattle.s2ix_bag_pairs.specs.Change.{IsChangeList}
use Rattle.s2ix_bag_pairs.specs.Limits.{changes_limit, count_limit}
use Rattle.s2ix_bag_pairs.specs.declared.limits.Limits.{Limits}
use Rattle.s2ix_bag_pairs.specs.declared.pair.Entry.{Entry}
use Rattle.s2ix_text_write.specs.Journal.{IsWritable}

-- an entry with counts within the limit
abbrev pub HasCountsWithin : Limits → Entry → Type 0
HasCountsWithin limits e = (e.before ≤ count_limit limits) × (e.after ≤ count_limit limits)

-- changes that a journal can hold, within the limits
pub record AreWithin (limits : Limits) (changes : List (List Entry)) : Type 0 where
  pub writable : All IsWritable changes
  pub small : All (λ es. All (HasCountsWithin limits) es) changes
  pub within_limit : length changes ≤ changes_limit limits

-- what a journal that is read under limits says: changes within them
pub record IsJournal (limits : Limits) (changes : List (List Entry)) : Type 0 where
  pub lists : All IsChangeList changes
  pub within : AreWithin limits changes

-- an entry with counts up to the greatest that may be written
abbrev pub HasSides : ℕ → Entry → Type 0
HasSides greatest e = (e.before ≤ greatest) × (e.after ≤ greatest)

-- entries of a group, so far
pub record AreEntries (greatest : ℕ) (limits : Limits) (es : List Entry) : Type 0 where
  pub list : IsChangeList es
  pub sides : All (HasSides greatest) es
  pub small : All (HasCountsWithin limits) es

-- the entries of a whole group
pub record IsGroup (greatest : ℕ) (limits : Limits) (es : List Entry) : Type 0 where
  pub entries : AreEntries greatest limits es
  pub some : 1 ≤ length es
  pub within_limit : length es ≤ 2000000

-- the groups of a journal, as many as the limits allow
pub record AreGroups (greatest : ℕ) (limits : Limits) (changes : List (List Entry)) : Type 0 where
  pub groups : All (IsGroup greatest limits) changes
  pub within_limit : length changes ≤ changes_limit limits
