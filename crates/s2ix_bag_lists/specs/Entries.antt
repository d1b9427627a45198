-- When a list of entries is no change.
use Rattle.std.specs.Prelude.{◌≡◌, ℕ, ◌+◌, ◌==◌, nat_lt, if◌then◌else◌, Option, Some, None, List, [], ◌∷◌, position}
use Rattle.std.specs.Option.{option_map, option_or}
use Rattle.s2ix_bag_pairs.specs.declared.pair.Entry.{Entry}
use Rattle.s2ix_bag_lists.specs.declared.errors.ChangeError.{ChangeError}
use Rattle.s2ix_bag_lists.specs.declared.errors.ChangeError.TheVariants.{Unsorted, NoDifference, OutOfMemory}
use Rattle.s2ix_bag_pairs.specs.Pair.{rank_of}

-- the place of the first entry, counted from the place k, that is below the rank n or not above the one before it
abbrev pub first_unsorted_from : ℕ → ℕ → List Entry → Option ℕ
first_unsorted_from k n [] = None
first_unsorted_from k n (e ∷ es) = if nat_lt (rank_of e.pair) n then Some k else first_unsorted_from (k + 1) (rank_of e.pair + 1) es

-- the place of the first entry that is not above the one before it
abbrev pub first_unsorted : List Entry → Option ℕ
first_unsorted es = first_unsorted_from 0 0 es

-- the place of the first entry whose two counts are equal
abbrev pub first_without_difference : List Entry → Option ℕ
first_without_difference es = position (λ e. e.before == e.after) es

-- why a list of entries is no change: an entry that is not above the one before it, else one whose counts are equal; `None` if it is
-- one
abbrev pub change_fault : List Entry → Option ChangeError
change_fault es = option_or (option_map Unsorted (first_unsorted es)) (option_map NoDifference (first_without_difference es))

-- the error is the fault that is due, or memory was wanted if none is due
abbrev pub IsChangeError : ChangeError → Option ChangeError → Type 0
IsChangeError (Unsorted place) fault = fault ≡ Some (Unsorted place)
IsChangeError (NoDifference place) fault = fault ≡ Some (NoDifference place)
IsChangeError OutOfMemory fault = fault ≡ None
