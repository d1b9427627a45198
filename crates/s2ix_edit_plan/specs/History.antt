-- Histories: whole collections in the order in which they were reached, the place of the one that holds now, and the
-- steps from one history to the next.
use Rattle.std.specs.Prelude.{ℕ, ◌+◌, ◌-◌, List, [], ◌∷◌, ◌++◌, take, drop, get_or}
use Rattle.s2ix_bag_pairs.specs.declared.pair.Entry.{Entry}
use Rattle.s2ix_bag_pairs.specs.Change.{change_between}
use Rattle.s2ix_bag_pairs.specs.Collection.{Collection}

-- a non-empty list of collections, and the place of the one that holds now
pub record History : Type 0 where
  pub collections : List Collection
  pub cursor : ℕ

-- the collection at the cursor
abbrev pub at_cursor : History → Collection
at_cursor h = get_or h.collections h.cursor []

-- the changes from this collection to the next, and so on
abbrev pub changes_from : Collection → List Collection → List (List Entry)
changes_from hs [] = []
changes_from hs (next ∷ rest) = change_between hs next ∷ changes_from next rest

-- the changes between neighbouring collections
abbrev pub changes_along : List Collection → List (List Entry)
changes_along [] = []
changes_along (hs ∷ rest) = changes_from hs rest

-- the changes that stand: those up to the cursor
abbrev pub standing : History → List (List Entry)
standing h = take h.cursor (changes_along h.collections)

-- the history after an edit: what lies after the cursor is cut, and the cursor goes on to the new collection
abbrev pub with_next : History → Collection → History
with_next h hs = record { collections = take (h.cursor + 1) h.collections ++ hs ∷ []; cursor = h.cursor + 1 }

-- the history after an undo: the cursor goes back
abbrev pub one_back : History → History
one_back h = record { collections = h.collections; cursor = h.cursor - 1 }

-- the history after a redo: the cursor goes on
abbrev pub one_on : History → History
one_on h = record { collections = h.collections; cursor = h.cursor + 1 }

-- the history of one collection and no other
abbrev pub alone : Collection → History
alone hs = record { collections = hs ∷ []; cursor = 0 }

-- the history after it is forgotten: the cursor's collection and no other
abbrev pub cursor_alone : History → History
cursor_alone h = record { collections = take 1 (drop h.cursor h.collections); cursor = 0 }
