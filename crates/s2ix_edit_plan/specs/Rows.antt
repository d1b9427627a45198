-- Rows: pairs, each with copies to add to its count.
use Rattle.std.specs.Prelude.{◌≡◌, ◌⊎◌, ℕ, ◌+◌, ◌<◌, ◌==◌, nat_lt, nat_le, if◌then◌else◌, Option, Some, None, List, [], ◌∷◌, ◌++◌, length, sum_by}
use Rattle.s2ix_bag_pairs.specs.declared.pair.Entry.{Entry}
use Rattle.s2ix_bag_pairs.specs.declared.pair.Held.{Held}
use Rattle.s2ix_bag_lists.specs.Apply.{first_mismatch}
use Rattle.s2ix_bag_pairs.specs.Change.{change_between, changed, IsChangeList}
use Rattle.s2ix_bag_pairs.specs.Collection.{Collection, LimitedCollection, count_at, count_in}
use Rattle.s2ix_bag_pairs.specs.Limits.{pairs_limit, count_limit, changes_limit}
use Rattle.s2ix_bag_pairs.specs.Pair.{rank_of}
use Rattle.s2ix_edit_plan.specs.declared.errors.EditError.{EditError}
use Rattle.s2ix_edit_plan.specs.declared.errors.EditError.TheVariants.{JournalFull, NoChange, TooManyCopies, TooManyPairs, OutOfMemory}
use Rattle.s2ix_edit_plan.specs.Edit.{with_more}
use Rattle.s2ix_edit_plan.specs.Plan.{one_entry}
use Rattle.s2ix_edit_plan.specs.Refusals.{has_count_above}
use Rattle.s2ix_edit_plan.specs.State.{State}

-- the collection with the copies of each row added to the count of the row's pair
abbrev pub with_rows : List Held → Collection → Collection
with_rows [] hs = hs
with_rows (row ∷ rows) hs = with_rows rows (with_more row.pair row.count hs)

-- how many copies rows have in all for the pair with this rank
abbrev pub copies_at : List Held → ℕ → ℕ
copies_at rows rank = sum_by (λ row. if rank_of row.pair == rank then row.count else 0) rows

-- the change that rows make of a collection
abbrev pub rows_change : Collection → List Held → List Entry
rows_change hs rows = change_between hs (with_rows rows hs)

-- why rows are refused if the journal has room, memory aside: no count would change, else one would pass the limit, else the number
-- of distinct pairs would; `None` if they are accepted
abbrev pub rows_plan_refusal : LimitedCollection → List Held → Option EditError
rows_plan_refusal bag rows =
    if length (rows_change bag.held rows) == 0 then Some NoChange
    else (if has_count_above (count_limit bag.limits) (with_rows rows bag.held) then Some TooManyCopies
    else (if nat_lt (pairs_limit bag.limits) (length (with_rows rows bag.held)) then Some TooManyPairs else None))

-- why a store refuses rows: a full journal comes first
abbrev pub rows_refusal : State → List Held → Option EditError
rows_refusal s rows =
    if nat_le (changes_limit s.bag.limits) (length s.done) then Some JournalFull else rows_plan_refusal s.bag rows

-- the entries carry rows out: the counts before are the bag's, and those after make the collection with the rows
pub record PlansRows (bag : LimitedCollection) (rows : List Held) (es : List Entry) : Type 0 where
  pub rises : IsChangeList es
  pub matches : first_mismatch bag es ≡ None
  pub result : changed bag.held es ≡ with_rows rows bag.held

-- ---- how the entries are found

-- the entry of one row: none if it has no copies
abbrev pub gain_of : Collection → Held → List Entry
gain_of hs row = one_entry row.pair (count_in hs row.pair) (count_in hs row.pair + row.count)

-- the entries of a row and of those that follow it in the order of their pairs, where the copies of one pair are one gain
abbrev pub gains_from : Collection → Held → List Held → List Entry
gains_from hs row [] = gain_of hs row
gains_from hs row (next ∷ rows) =
    if rank_of next.pair == rank_of row.pair then gains_from hs (record { pair = row.pair; count = row.count + next.count }) rows
    else gain_of hs row ++ gains_from hs next rows

abbrev pub gains_of : Collection → List Held → List Entry
gains_of hs [] = []
gains_of hs (row ∷ rows) = gains_from hs row rows

-- memory was wanted, or the sum of a pair's count and its copies in the rows is above every limit
abbrev pub IsRowsError : Collection → List Held → EditError → Type 0
IsRowsError hs rows error =
    (error ≡ OutOfMemory) ⊎ ((error ≡ TooManyCopies) × ((rank : ℕ) × (4294967295 < count_at hs rank + copies_at rows rank)))
