-- What a bag becomes by changes that are done to it or taken back, and the first of them that is refused.
use Rattle.std.specs.Prelude.{◌≡◌, ℕ, ◌+◌, Option, Some, None, List, [], ◌∷◌, map, reverse}
use Rattle.std.specs.Option.{option_map, option_or}
use Rattle.s2ix_bag_lists.specs.declared.errors.ApplyError.{ApplyError}
use Rattle.s2ix_bag_lists.specs.declared.errors.ApplyError.TheVariants as apply
use Rattle.s2ix_bag_pairs.specs.declared.pair.Entry.{Entry}
use Rattle.s2ix_bag_lists.specs.Apply.{apply_refusal}
use Rattle.s2ix_bag_pairs.specs.Change.{changed, inverse_of}
use Rattle.s2ix_bag_pairs.specs.Collection.{LimitedCollection}
use Rattle.s2ix_bag.specs.declared.replay_error.ReplayError.{ReplayError}
use Rattle.s2ix_bag.specs.declared.replay_error.ReplayError.TheVariants.{Mismatch, TooManyCopies, TooManyPairs, OutOfMemory}

-- ---- changes with their numbers

-- a change with its number
pub record Numbered : Type 0 where
  pub number : ℕ
  pub change : List Entry

-- changes with their numbers from this one on
abbrev pub numbered_from : ℕ → List (List Entry) → List Numbered
numbered_from number [] = []
numbered_from number (es ∷ rest) = record { number = number; change = es } ∷ numbered_from (number + 1) rest

-- changes with their numbers in a journal, which counts from 1
abbrev pub with_numbers : List (List Entry) → List Numbered
with_numbers changes = numbered_from 1 changes

-- what takes a change back, under its number
abbrev pub back_of : Numbered → Numbered
back_of c = record { number = c.number; change = inverse_of c.change }

-- what takes changes back: the last of them first
abbrev pub way_back : List Numbered → List Numbered
way_back cs = map back_of (reverse cs)

-- ---- the bag that they make

-- the bag that a change makes of a bag
abbrev pub after_change : LimitedCollection → List Entry → LimitedCollection
after_change bag es = record { limits = bag.limits; held = changed bag.held es }

-- the bag after changes, each done to what those before it made
abbrev pub after_changes : LimitedCollection → List Numbered → LimitedCollection
after_changes bag [] = bag
after_changes bag (c ∷ rest) = after_changes (after_change bag c.change) rest

-- the bag after a journal's changes
abbrev pub replayed : LimitedCollection → List (List Entry) → LimitedCollection
replayed bag changes = after_changes bag (with_numbers changes)

-- the bag before a journal's changes
abbrev pub rewound : LimitedCollection → List (List Entry) → LimitedCollection
rewound bag changes = after_changes bag (way_back (with_numbers changes))

-- ---- the first change that is refused

-- why the change with this number is refused; the entry's place is counted from 0, its number from 1
abbrev pub refusal_numbered : ℕ → ApplyError → ReplayError
refusal_numbered number (apply.Mismatch place) = Mismatch number (place + 1)
refusal_numbered number apply.TooManyCopies = TooManyCopies number
refusal_numbered number apply.TooManyPairs = TooManyPairs number
refusal_numbered number apply.OutOfMemory = OutOfMemory

-- the refusal of the first change that the bag before it refuses; `None` if each is taken
abbrev pub first_refusal : LimitedCollection → List Numbered → Option ReplayError
first_refusal bag [] = None
first_refusal bag (c ∷ rest) =
    option_or (option_map (refusal_numbered c.number) (apply_refusal bag c.change)) (first_refusal (after_change bag c.change) rest)

-- why a bag refuses a journal's changes, memory aside
abbrev pub replay_refusal : LimitedCollection → List (List Entry) → Option ReplayError
replay_refusal bag changes = first_refusal bag (with_numbers changes)

-- why a bag refuses to take a journal's changes back, memory aside
abbrev pub rewind_refusal : LimitedCollection → List (List Entry) → Option ReplayError
rewind_refusal bag changes = first_refusal bag (way_back (with_numbers changes))

-- the error is the refusal that stands, or memory was wanted
abbrev pub IsReplayError : ReplayError → Option ReplayError → Type 0
IsReplayError (Mismatch change entry) refusal = refusal ≡ Some (Mismatch change entry)
IsReplayError (TooManyCopies change) refusal = refusal ≡ Some (TooManyCopies change)
IsReplayError (TooManyPairs change) refusal = refusal ≡ Some (TooManyPairs change)
IsReplayError OutOfMemory refusal = Unit {0}
