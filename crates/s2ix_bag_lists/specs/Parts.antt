-- A collection in parts, one after the other.
use Rattle.std.specs.Prelude.{◌≡◌, ℕ, ◌+◌, ◌<◌, ◌≤◌, List, [], ◌∷◌, take, drop, length}
use Rattle.s2ix_bag_pairs.specs.Collection.{Collection, IsCollection, IsCollectionFrom, AreBelow}
use Rattle.s2ix_bag_pairs.specs.Change.{IsChangeListFrom}
use Rattle.s2ix_bag_pairs.specs.declared.pair.Entry.{Entry}
use Rattle.s2ix_bag_lists.specs.Faces.{AreEntriesBelow, all_of}

-- how many pairs come before each part, if n come before the first
abbrev pub starts_from : ℕ → List Collection → List ℕ
starts_from n [] = []
starts_from n (part ∷ parts) = n ∷ starts_from (n + length part) parts

-- no part is without a pair
abbrev pub AreFilled : List Collection → Type 0
AreFilled [] = Unit {0}
AreFilled (part ∷ parts) = (0 < length part) × AreFilled parts

-- the part that has a place of a collection, and how many pairs come before the part
pub record IsPartAt (place : ℕ) (held : Collection) (before : ℕ) (own : Collection) : Type 0 where
  pub begins : before ≤ place
  pub ends : place < before + length own
  pub part : take (length own) (drop before held) ≡ own

-- there are parts, they rise, none is empty, and the running numbers and the length are theirs
pub record AreParts (parts : List Collection) (starts : List ℕ) (len : ℕ) : Type 0 where
  pub some : 0 < length parts
  pub rises : IsCollection (all_of parts)
  pub filled : AreFilled parts
  pub counted : starts ≡ starts_from 0 parts
  pub whole : len ≡ length (all_of parts)
  pub within_limit : len ≤ 1000000

-- the first entries are those of the parts up to this one: a rank parts both the entries and the pairs
pub record AreEntriesUpTo (parts : List Collection) (place : ℕ) (es : List Entry) (own : ℕ) : Type 0 where
  pub rank : ℕ
  pub front : AreBelow rank (all_of (take (place + 1) parts))
  pub back : IsCollectionFrom rank (all_of (drop (place + 1) parts))
  pub entries : AreEntriesBelow rank (take own es)
  pub later : IsChangeListFrom rank (drop own es)

-- the parts from the number `first` on and before `end`: all entries fall into them, since ranks part them from the other parts
pub record IsWindow (parts : List Collection) (es : List Entry) (first end : ℕ) : Type 0 where
  pub some : first < end
  pub within : end ≤ length parts
  pub low : ℕ
  pub high : ℕ
  pub front : AreBelow low (all_of (take first parts))
  pub back : IsCollectionFrom high (all_of (drop end parts))
  pub entries_from : IsChangeListFrom low es
  pub entries_below : AreEntriesBelow high es

-- the parts behind the first `before` ones, in one of which a pair of this rank is, or would go
pub record AreAround (parts : List Collection) (rank before : ℕ) (own : List Collection) : Type 0 where
  pub some : 0 < length own
  pub within : before + length own ≤ length parts
  pub follow : own ≡ take (length own) (drop before parts)
  pub below : AreBelow rank (all_of (take before parts))
  pub rest : IsCollectionFrom (rank + 1) (all_of (drop (before + length own) parts))
