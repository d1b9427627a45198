-- When a bag refuses to take a change back.
use Rattle.std.specs.Prelude.{◌≡◌, nat_lt, if◌then◌else◌, Option, Some, None, List, length}
use Rattle.std.specs.List.{list_any}
use Rattle.s2ix_bag_pairs.specs.declared.pair.Entry.{Entry}
use Rattle.s2ix_bag_lists.specs.declared.errors.RevertError.{RevertError}
use Rattle.s2ix_bag_lists.specs.declared.errors.RevertError.TheVariants.{BelowZero, TooManyCopies, TooManyPairs, OutOfMemory}
use Rattle.s2ix_bag_pairs.specs.Limits.{pairs_limit, count_limit}
use Rattle.s2ix_bag_pairs.specs.Collection.{LimitedCollection}
use Rattle.s2ix_bag_pairs.specs.TakenBack.{count_back, first_below_zero, taken_back}

-- why a bag refuses to take a change back, memory aside: a count that would be below 0, else one above the limit, else more distinct
-- pairs than the limit; `None` if it takes it back
abbrev pub revert_refusal : LimitedCollection → List Entry → Option RevertError
revert_refusal bag es =
    elim (first_below_zero bag.held es) [
      | Some place ↦ Some (BelowZero place)
      | None ↦
          if list_any (λ e. nat_lt (count_limit bag.limits) (count_back bag.held e)) es then Some TooManyCopies
          else (if nat_lt (pairs_limit bag.limits) (length (taken_back bag.held es)) then Some TooManyPairs else None)
    ]

-- the error is the refusal that stands, or memory was wanted where none stands
abbrev pub IsRevertRefusal : RevertError → Option RevertError → Type 0
IsRevertRefusal (BelowZero place) refusal = refusal ≡ Some (BelowZero place)
IsRevertRefusal TooManyCopies refusal = refusal ≡ Some TooManyCopies
IsRevertRefusal TooManyPairs refusal = refusal ≡ Some TooManyPairs
IsRevertRefusal OutOfMemory refusal = refusal ≡ None
