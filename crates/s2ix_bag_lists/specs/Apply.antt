-- When a change is refused by a bag.
use Rattle.std.specs.Prelude.{◌≡◌, ℕ, ◌==◌, nat_lt, not, if◌then◌else◌, Option, Some, None, List, [], ◌∷◌, length, position}
use Rattle.std.specs.List.{list_any}
use Rattle.s2ix_bag_pairs.specs.declared.pair.Entry.{Entry}
use Rattle.s2ix_bag_lists.specs.declared.errors.ApplyError.{ApplyError}
use Rattle.s2ix_bag_lists.specs.declared.errors.ApplyError.TheVariants.{Mismatch, TooManyCopies, TooManyPairs, OutOfMemory}
use Rattle.s2ix_bag_pairs.specs.Limits.{pairs_limit, count_limit}
use Rattle.s2ix_bag_pairs.specs.Collection.{Collection, LimitedCollection, count_in}
use Rattle.s2ix_bag_pairs.specs.Change.{changed}

-- the place of the first entry whose count before is not the bag's
abbrev pub first_mismatch : LimitedCollection → List Entry → Option ℕ
first_mismatch bag es = position (λ e. not (e.before == count_in bag.held e.pair)) es

-- each count before is that of the collection
abbrev pub AreBefore : Collection → List Entry → Type 0
AreBefore hs [] = Unit {0}
AreBefore hs (e ∷ es) = (e.before ≡ count_in hs e.pair) × AreBefore hs es

-- why a bag refuses a change, memory aside: a count before that is not the bag's, else a count after above the
-- limit, else more distinct pairs than the limit; `None` if it takes it
abbrev pub apply_refusal : LimitedCollection → List Entry → Option ApplyError
apply_refusal bag es =
    elim (first_mismatch bag es) [
      | Some place ↦ Some (Mismatch place)
      | None ↦
          if list_any (λ e. nat_lt (count_limit bag.limits) e.after) es then Some TooManyCopies
          else (if nat_lt (pairs_limit bag.limits) (length (changed bag.held es)) then Some TooManyPairs else None)
    ]

-- the error is the refusal that stands, or memory was wanted where none stands
abbrev pub IsApplyRefusal : ApplyError → Option ApplyError → Type 0
IsApplyRefusal (Mismatch place) refusal = refusal ≡ Some (Mismatch place)
IsApplyRefusal TooManyCopies refusal = refusal ≡ Some TooManyCopies
IsApplyRefusal TooManyPairs refusal = refusal ≡ Some TooManyPairs
IsApplyRefusal OutOfMemory refusal = refusal ≡ None
