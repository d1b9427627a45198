-- Which states a store can stand in.
use Rattle.std.specs.Prelude.{◌≡◌, ◌+◌, ◌<◌, ◌≤◌, None, List, [], ◌∷◌, length, reverse}
use Rattle.s2ix_bag_pairs.specs.declared.pair.Entry.{Entry}
use Rattle.s2ix_bag_lists.specs.Apply.{apply_refusal}
use Rattle.s2ix_bag_pairs.specs.Change.{changed, inverse_of, IsChangeList}
use Rattle.s2ix_bag_pairs.specs.Collection.{LimitedCollection, IsBag}
use Rattle.s2ix_bag_pairs.specs.Limits.{changes_limit}
use Rattle.s2ix_edit_plan.specs.State.{State}
use Rattle.s2ix_edit_store.specs.Steps.{with_held}

-- one change more can be recorded
abbrev pub HasRoom : State → Type 0
HasRoom s = length s.done < changes_limit s.bag.limits

-- changes, the newest first, that can be taken back from a bag one after the other
abbrev pub CanGoBack : LimitedCollection → List (List Entry) → Type 0
CanGoBack bag [] = Unit {0}
CanGoBack bag (es ∷ older) =
    IsChangeList es × (0 < length es) × (apply_refusal bag (inverse_of es) ≡ None)
    × CanGoBack (with_held bag (changed bag.held (inverse_of es))) older

-- changes that can be done to a bag one after the other
abbrev pub CanGoOn : LimitedCollection → List (List Entry) → Type 0
CanGoOn bag [] = Unit {0}
CanGoOn bag (es ∷ rest) =
    IsChangeList es × (0 < length es) × (apply_refusal bag es ≡ None) × CanGoOn (with_held bag (changed bag.held es)) rest

-- a store stands at one place of a history: each recorded change has entries and leads from one bag within the limits
-- to the next
pub record IsStore (s : State) : Type 0 where
  pub bag : IsBag s.bag
  pub can_go_back : CanGoBack s.bag (reverse s.done)
  pub can_go_on : CanGoOn s.bag (reverse s.undone)
  pub room : length s.done + length s.undone ≤ changes_limit s.bag.limits
