-- Which refusal of an edit is due first.
use Rattle.std.proofs.Common.{◌≡◌, ℕ, ◌+◌, ◌<◌, ◌≤◌, ◌==◌, Bool, true, false, cond, ltb, ltb-true, List, [], ◌∷◌, length, find, Option, Some, None, refl, ⊎_elim, sym, ap, ◌∙◌, arith}
use Rattle.std.proofs.lemmas.Bool.{cases_Bool, cond-false, eqb-true, lt-leb}
use Rattle.std.specs.List.{list_any}
use Rattle.s2ix_bag_pairs.specs.declared.pair.Pair.{Pair}
use Rattle.s2ix_bag_pairs.specs.declared.pair.Entry.{Entry}
use Rattle.s2ix_bag_pairs.specs.Change.{change_between, changed}
use Rattle.s2ix_bag_pairs.specs.Collection.{Collection, LimitedCollection, IsBag, IsCollection, count_in}
use Rattle.s2ix_bag_pairs.specs.Limits.{pairs_limit, count_limit, changes_limit}
use Rattle.s2ix_edit_plan.specs.declared.errors.EditError.{EditError}
use Rattle.s2ix_edit_plan.specs.declared.errors.EditError.TheVariants.{NoChange, TooManyCopies, TooManyPairs}
use Rattle.s2ix_edit_plan.specs.declared.edit.Edit.{Edit}
use Rattle.s2ix_edit_plan.specs.Edit.{edited, edited_by, with_more}
use Rattle.s2ix_edit_plan.specs.History.{standing}
use Rattle.s2ix_edit_plan.specs.State.{State, change_of, history_of}
use Rattle.s2ix_edit_plan.specs.Plan.{Plans, entries_refusal}
use Rattle.s2ix_edit_plan.specs.Refusals.{asks_too_fine, edit_refusal, goes_below_zero, has_count_above, has_count_above_every_limit, lacks_change, lacks_label, plan_refusal, refusals_with_room, is_due, takes_too_many}
use Rattle.s2ix_edit_plan.proofs.Above.{above_from_count, any_above_changed, none_above}
use Rattle.s2ix_edit_plan.proofs.Plans.{between_changed}
use Rattle.s2ix_edit_plan.proofs.EachRefusal.{it_is_due}
use Rattle.s2ix_edit_plan.proofs.Edited.{edited_held, edited_is_collection, held_edited_is_collection}
use Rattle.s2ix_bag_pairs.proofs.Collections.{count_in-set_count_same}
use Rattle.s2ix_bag_pairs.proofs.Differences.{changed_between}
use Rattle.s2ix_bag_pairs.specs.Pair.{rank_of}

-- with room in the journal the refusal is that of the bag that the changes led to
pub with_room : (s : State) (edit : Edit) → standing (history_of s) ≡ s.done → length s.done < changes_limit s.bag.limits
    → edit_refusal s edit ≡ plan_refusal s.bag s.done edit
with_room s edit stand room =
    cond-false _ _ _ (lt-leb _ _ room) ∙ ap (λ new. find (is_due s.bag s.done edit new) refusals_with_room) (edited_held s edit stand)

-- ---- the three refusals that are found while the change is made

unfoldable pub first_of_three : Bool → Bool → Bool → Option EditError
first_of_three same high many =
    cond same (Some NoChange) (cond high (Some TooManyCopies) (cond many (Some TooManyPairs) None))

unfoldable pub is_high : LimitedCollection → Collection → Bool
is_high bag hs = has_count_above (count_limit bag.limits) hs

later_refusal : (bag : LimitedCollection) (changes : List (List Entry)) (edit : Edit) → lacks_label edit bag.held ≡ false
    → takes_too_many edit bag.held ≡ false → asks_too_fine edit bag.held ≡ false → lacks_change changes edit ≡ false
    → goes_below_zero changes edit bag.held ≡ false
    → plan_refusal bag changes edit
    ≡ first_of_three (length (change_between bag.held (edited_by changes edit bag.held)) == 0)
    (is_high bag (edited_by changes edit bag.held)) (ltb (pairs_limit bag.limits) (length (edited_by changes edit bag.held)))
unfolding first_of_three is_high
later_refusal bag changes edit known allowed fits stood above =
    cond-false _ _ _ known ∙ cond-false _ _ _ allowed ∙ cond-false _ _ _ fits ∙ cond-false _ _ _ stood ∙ cond-false _ _ _ above

-- ---- the refusals of planned entries

any_high : (bag : LimitedCollection) (changes : List (List Entry)) (edit : Edit) (es : List Entry) → IsBag bag → Plans bag changes edit es
    → is_high bag (edited_by changes edit bag.held) ≡ list_any (λ e. ltb (count_limit bag.limits) e.after) es
unfolding is_high
any_high bag changes edit es b plans =
    ap (λ hs. has_count_above (count_limit bag.limits) hs) (sym plans.result)
    ∙ any_above_changed (count_limit bag.limits) bag.held es b.rises plans.rises b.small

-- the change from a collection to the edited one is its plan
pub planned_change : (bag : LimitedCollection) (changes : List (List Entry)) (edit : Edit) (es : List Entry) → IsBag bag
    → Plans bag changes edit es → change_between bag.held (edited_by changes edit bag.held) ≡ es
planned_change bag changes edit es b plans =
    ap (λ hs. change_between bag.held hs) (sym plans.result)
    ∙ between_changed bag es b.rises plans.rises plans.matches

pub entries_by_three : (bag : LimitedCollection) (es : List Entry)
    → first_of_three (length es == 0) (list_any (λ e. ltb (count_limit bag.limits) e.after) es)
    (ltb (pairs_limit bag.limits) (length (changed bag.held es)))
    ≡ entries_refusal bag es
unfolding first_of_three
entries_by_three bag es = refl

-- an edit is refused as the entries that it plans are
pub planned_refusal : (bag : LimitedCollection) (changes : List (List Entry)) (edit : Edit) (es : List Entry) → IsBag bag
    → Plans bag changes edit es → plan_refusal bag changes edit ≡ entries_refusal bag es
planned_refusal bag changes edit es b plans =
    let new = edited_by changes edit bag.held in
    let many : Collection → Bool = λ hs. ltb (pairs_limit bag.limits) (length hs) in
    let high : Bool = list_any (λ (e : Entry). ltb (count_limit bag.limits) e.after) es in
    later_refusal bag changes edit plans.known plans.allowed plans.fits plans.stood plans.above
    ∙ ap (λ (ds : List Entry). first_of_three (length ds == 0) (is_high bag new) (many new)) (planned_change bag changes edit es b plans)
    ∙ ap (λ t. first_of_three (length es == 0) t (many new)) (any_high bag changes edit es b plans)
    ∙ ap (λ hs. first_of_three (length es == 0) high (many hs)) (sym plans.result)
    ∙ entries_by_three bag es

-- entries that are not refused are some
pub some_entries : (bag : LimitedCollection) (es : List Entry) → entries_refusal bag es ≡ None → 0 < length es
some_entries bag [] none = let clash : ◌≡◌ {A = Option EditError} (Some NoChange) None = none in cc
some_entries bag (e ∷ es) none = omega arith

-- ---- a count above the limit

no_entries : (es : List Entry) → (length es == 0) ≡ true → es ≡ []
no_entries [] is = refl
no_entries (e ∷ es) is = absurd (omega (arith, eqb-true (length (e ∷ es)) 0 is))

-- a collection that the change leaves as it is
pub same_where_none : (bag : LimitedCollection) (new : Collection) → IsBag bag → IsCollection new
    → (length (change_between bag.held new) == 0) ≡ true → bag.held ≡ new
same_where_none bag new b is none =
    sym (ap (λ es. changed bag.held es) (no_entries (change_between bag.held new) none)) ∙ changed_between bag.held new b.rises is

-- if a count of the edited collection passes the limit, the edit changes the collection
pub changes_some : (bag : LimitedCollection) (new : Collection) → IsBag bag → IsCollection new
    → has_count_above (count_limit bag.limits) new ≡ true → (length (change_between bag.held new) == 0) ≡ false
changes_some bag new b is high =
    ⊎_elim
    (λ none.
    let same = same_where_none bag new b is none in
    let clash : true ≡ false = sym high ∙ ap (λ hs. has_count_above (count_limit bag.limits) hs) (sym same)
    ∙ none_above (count_limit bag.limits) bag.held b.small in
    cc)
    (λ some. some)
    (cases_Bool (length (change_between bag.held new) == 0))

-- so it does if the collection has more pairs than the limit
longer_differs : (bag : LimitedCollection) (new : Collection) → IsBag bag → IsCollection new → pairs_limit bag.limits < length new
    → (length (change_between bag.held new) == 0) ≡ false
longer_differs bag new b is many =
    ⊎_elim
    (λ none. let within_limit = b.within_limit in absurd (omega (arith, many, within_limit, ap length (same_where_none bag new b is none))))
    (λ some. some)
    (cases_Bool (length (change_between bag.held new) == 0))

-- an edit that makes a count above the limit is refused for its copies
pub too_high : (bag : LimitedCollection) (changes : List (List Entry)) (edit : Edit) → IsBag bag → lacks_label edit bag.held ≡ false
    → takes_too_many edit bag.held ≡ false → asks_too_fine edit bag.held ≡ false → lacks_change changes edit ≡ false
    → goes_below_zero changes edit bag.held ≡ false → has_count_above (count_limit bag.limits) (edited_by changes edit bag.held) ≡ true
    → plan_refusal bag changes edit ≡ Some TooManyCopies
unfolding first_of_three is_high
too_high bag changes edit b known allowed fits stood above high =
    let new = edited_by changes edit bag.held in
    let many : Bool = ltb (pairs_limit bag.limits) (length new) in
    later_refusal bag changes edit known allowed fits stood above
    ∙ ap (λ t. first_of_three t (is_high bag new) many) (changes_some bag new b (edited_is_collection changes edit bag.held b.rises) high)
    ∙ ap (λ t. first_of_three false t many) high

-- an edit that makes no such count, but more pairs than the limit, is refused for its pairs
pub too_many : (bag : LimitedCollection) (changes : List (List Entry)) (edit : Edit) → IsBag bag → lacks_label edit bag.held ≡ false
    → takes_too_many edit bag.held ≡ false → asks_too_fine edit bag.held ≡ false → lacks_change changes edit ≡ false
    → goes_below_zero changes edit bag.held ≡ false → has_count_above (count_limit bag.limits) (edited_by changes edit bag.held) ≡ false
    → ltb (pairs_limit bag.limits) (length (edited_by changes edit bag.held)) ≡ true → plan_refusal bag changes edit ≡ Some TooManyPairs
unfolding first_of_three is_high
too_many bag changes edit b known allowed fits stood above low many =
    let new = edited_by changes edit bag.held in
    later_refusal bag changes edit known allowed fits stood above
    ∙ ap (λ t. first_of_three t (is_high bag new) (ltb (pairs_limit bag.limits) (length new)))
    (longer_differs bag new b (edited_is_collection changes edit bag.held b.rises) (ltb-true _ _ many))
    ∙ ap (λ t. first_of_three false t (ltb (pairs_limit bag.limits) (length new))) low
    ∙ ap (λ t. first_of_three false false t) many

-- a sum that no `u32` holds is a count above every limit
pub sum_above : (hs : Collection) (p : Pair) (copies before : ℕ) → IsCollection hs → before ≡ count_in hs p
    → 4294967296 ≤ before + copies → has_count_above_every_limit (with_more p copies hs) ≡ true
sum_above hs p copies before is is_before high =
    let sum = count_in-set_count_same p (count_in hs p + copies) hs is in
    above_from_count 4294967295 (with_more p copies hs) (rank_of p) (omega (arith, sum, is_before, high))

-- the change that a store records of an edit is its plan
pub change_planned : (s : State) (edit : Edit) (es : List Entry) → standing (history_of s) ≡ s.done → IsBag s.bag
    → Plans s.bag s.done edit es → change_of s edit ≡ es
change_planned s edit es stand b plans =
    ap (λ hs. change_between s.bag.held hs) (edited_held s edit stand) ∙ planned_change s.bag s.done edit es b plans

-- an edit of a store is refused because nothing would change only if nothing would
pub same_from_refusal : (s : State) (edit : Edit) → IsBag s.bag → edit_refusal s edit ≡ Some NoChange
    → edited (history_of s) edit ≡ s.bag.held
same_from_refusal s edit b found =
    let is = held_edited_is_collection s edit b.rises in
    sym (same_where_none s.bag (edited (history_of s) edit) b is (it_is_due s edit NoChange found))
