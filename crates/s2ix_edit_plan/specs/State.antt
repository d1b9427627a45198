-- What contracts see of a store, the history that it holds, and the change that an edit of it records.
use Rattle.std.specs.Prelude.{ℕ, List, [], ◌∷◌, ◌++◌, length, reverse}
use Rattle.s2ix_bag_pairs.specs.declared.pair.Entry.{Entry}
use Rattle.s2ix_bag_pairs.specs.Change.{change_between, changed, inverse_of}
use Rattle.s2ix_bag_pairs.specs.Collection.{Collection, LimitedCollection}
use Rattle.s2ix_edit_plan.specs.declared.edit.Edit.{Edit}
use Rattle.s2ix_edit_plan.specs.Edit.{edited}
use Rattle.s2ix_edit_plan.specs.History.{History}

-- what contracts see of a store: its bag, the changes that led to it, the oldest first, those that were undone, the last
-- undone at the end, and on how many faces its last step changed something
pub record State : Type 0 where
  pub bag : LimitedCollection
  pub done : List (List Entry)
  pub undone : List (List Entry)
  pub faces_rebuilt : ℕ

-- a store that stands at a bag and has no history
abbrev pub starting_at : LimitedCollection → State
starting_at bag = record { bag = bag; done = []; undone = []; faces_rebuilt = 0 }

-- the collections before this one, the oldest first, by taking changes back from the newest on
abbrev pub earlier : Collection → List (List Entry) → List Collection
earlier hs [] = []
earlier hs (es ∷ older) = earlier (changed hs (inverse_of es)) older ++ changed hs (inverse_of es) ∷ []

-- the collections after this one, by doing changes in their order
abbrev pub later : Collection → List (List Entry) → List Collection
later hs [] = []
later hs (es ∷ rest) = changed hs es ∷ later (changed hs es) rest

-- the history that a store holds
abbrev pub history_of : State → History
history_of s = record {
  collections = earlier s.bag.held (reverse s.done) ++ s.bag.held ∷ later s.bag.held (reverse s.undone);
  cursor = length s.done;
}

-- the change that an edit records
abbrev pub change_of : State → Edit → List Entry
change_of s edit = change_between s.bag.held (edited (history_of s) edit)
