-- Taking a change back: what carries it out, and when it is refused.
use Rattle.std.proofs.Common.{◌≡◌, ◌≢◌, ℕ, ◌==◌, ◌||◌, Bool, true, false, cond, ltb, nat_lt, is_some, ◌⊎◌, inl, inr, List, [], ◌∷◌, length, Option, Some, None, pos, ◌-ℤ◌, refl, sym, ap, ◌∙◌, subst}
use Rattle.std.proofs.lemmas.Bool.{cond-false, cond-true}
use Rattle.std.specs.List.{list_any}
use Rattle.s2ix_bag_pairs.specs.declared.pair.Pair.{Pair}
use Rattle.s2ix_bag_pairs.specs.declared.pair.Entry.{Entry}
use Rattle.s2ix_bag_pairs.specs.Change.{counts_at, IsChangeList}
use Rattle.s2ix_bag_pairs.specs.Collection.{Collection, LimitedCollection, IsBag, IsCollection, count_in}
use Rattle.s2ix_bag_pairs.specs.Limits.{pairs_limit, count_limit}
use Rattle.s2ix_bag_pairs.specs.Pair.{rank_of}
use Rattle.s2ix_bag_pairs.specs.TakenBack.{change_back, count_back, first_below_zero, gain_of, taken_back}
use Rattle.s2ix_bag_pairs.proofs.TakenBack.{above_from_none, back_keeps, gain_taken}
use Rattle.s2ix_bag_lists.specs.Revert.{revert_refusal, IsRevertRefusal}
use Rattle.s2ix_bag_lists.specs.declared.errors.RevertError.{RevertError}
use Rattle.s2ix_bag_lists.specs.declared.errors.RevertError.TheVariants as revert
use Rattle.s2ix_bag_lists.proofs.Refusals.{no_mismatch}
use Rattle.s2ix_bag_lists.proofs.Reverts.{back_before}
use Rattle.s2ix_edit_plan.specs.declared.errors.EditError.{EditError}
use Rattle.s2ix_edit_plan.specs.declared.errors.EditError.TheVariants.{BelowZero, NoChange, TooManyCopies, TooManyPairs, OutOfMemory}
use Rattle.s2ix_edit_plan.specs.Errors.{revert_error, MayWantMemory}
use Rattle.s2ix_edit_plan.specs.declared.edit.Edit.TheVariants.{Revert}
use Rattle.s2ix_edit_plan.specs.Edit.{edited_by, numbered, without_change}
use Rattle.s2ix_edit_plan.specs.Plan.{Plans, IsPlanRefusal}
use Rattle.s2ix_edit_plan.specs.Refusals.{goes_below_zero, has_count_above, lacks_change, plan_refusal}
use Rattle.s2ix_edit_plan.proofs.Above.{any_above_changed}
use Rattle.s2ix_edit_plan.proofs.Refused.{planned_refusal, too_high, too_many}

-- ---- where a bag refuses to take a change back

pub is_high_back : LimitedCollection → List Entry → Bool
is_high_back bag es = list_any (λ e. nat_lt (count_limit bag.limits) (count_back bag.held e)) es

pub is_many_back : LimitedCollection → List Entry → Bool
is_many_back bag es = nat_lt (pairs_limit bag.limits) (length (taken_back bag.held es))

pub high_back_is : (bag : LimitedCollection) (es : List Entry)
    → is_high_back bag es ≡ list_any (λ e. nat_lt (count_limit bag.limits) (count_back bag.held e)) es
unfolding is_high_back
high_back_is bag es = refl

pub many_back_is : (bag : LimitedCollection) (es : List Entry)
    → is_many_back bag es ≡ nat_lt (pairs_limit bag.limits) (length (taken_back bag.held es))
unfolding is_many_back
many_back_is bag es = refl

-- the refusal, by whether a count would pass the limit, whether the pairs would, and the first count below 0
pub refused_at : Bool → Bool → Option ℕ → Option RevertError
refused_at high many (Some place) = Some (revert.BelowZero place)
refused_at high many None = cond high (Some revert.TooManyCopies) (cond many (Some revert.TooManyPairs) None)

pub refused_is : (bag : LimitedCollection) (es : List Entry)
    → refused_at (is_high_back bag es) (is_many_back bag es) (first_below_zero bag.held es) ≡ revert_refusal bag es
unfolding refused_at is_high_back is_many_back
refused_is bag es = refl

pub below_by : (high many : Bool) (below : Option ℕ) (place : ℕ) → refused_at high many below ≡ Some (revert.BelowZero place)
    → is_some below ≡ true
unfolding refused_at
below_by high many (Some found) place is = refl
below_by true many None place is = cc
below_by false true None place is = cc
below_by false false None place is = cc

pub copies_by : (high many : Bool) (below : Option ℕ) → refused_at high many below ≡ Some revert.TooManyCopies → (below ≡ None) × (high ≡ true)
unfolding refused_at
copies_by high many (Some found) is = cc
copies_by true many None is = (refl, refl)
copies_by false true None is = cc
copies_by false false None is = cc

pub pairs_by : (high many : Bool) (below : Option ℕ) → refused_at high many below ≡ Some revert.TooManyPairs
    → (below ≡ None) × (high ≡ false) × (many ≡ true)
unfolding refused_at
pairs_by high many (Some found) is = cc
pairs_by true many None is = cc
pairs_by false true None is = (refl, refl, refl)
pairs_by false false None is = cc

none_by : (high many : Bool) (below : Option ℕ) → refused_at high many below ≡ None → below ≡ None
unfolding refused_at
none_by high many (Some found) is = cc
none_by high many None is = refl

fits_by : (high many : Bool) (below : Option ℕ) → refused_at high many below ≡ None → (below ≡ None) × (high ≡ false) × (many ≡ false)
unfolding refused_at
fits_by high many (Some found) is = cc
fits_by true many None is = cc
fits_by false true None is = cc
fits_by false false None is = (refl, refl, refl)

-- ---- the change with a number

-- what the edit makes of the collection, whether it lacks its change and goes below 0, by the change that was found
makes_found : (bag : LimitedCollection) (changes : List (List Entry)) (number : ℕ) (es : List Entry) → numbered number changes ≡ Some es
    → edited_by changes (Revert number) bag.held ≡ taken_back bag.held es
makes_found bag changes number es found = ap (λ o. without_change o bag.held) found

lacks : Option (List Entry) → Bool
lacks (Some es) = false
lacks None = true

lacks_found : (changes : List (List Entry)) (number : ℕ) (o : Option (List Entry)) → numbered number changes ≡ o
    → lacks_change changes (Revert number) ≡ lacks o
unfolding lacks
lacks_found changes number o found = ap lacks found

below : Collection → Option (List Entry) → Bool
below hs (Some es) = is_some (first_below_zero hs es)
below hs None = false

below_found : (hs : Collection) (changes : List (List Entry)) (number : ℕ) (o : Option (List Entry)) → numbered number changes ≡ o
    → goes_below_zero changes (Revert number) hs ≡ below hs o
unfolding below
below_found hs changes number o found = ap (below hs) found

stood : (changes : List (List Entry)) (number : ℕ) (es : List Entry) → numbered number changes ≡ Some es
    → lacks_change changes (Revert number) ≡ false
unfolding lacks
stood changes number es found = lacks_found changes number (Some es) found

above : (hs : Collection) (changes : List (List Entry)) (number : ℕ) (es : List Entry) → numbered number changes ≡ Some es
    → first_below_zero hs es ≡ None → goes_below_zero changes (Revert number) hs ≡ false
unfolding below
above hs changes number es found none = below_found hs changes number (Some es) found ∙ ap is_some none

-- ---- the plan

-- the change that takes the numbered one back carries the edit out
plans_above : (bag : LimitedCollection) (changes : List (List Entry)) (number : ℕ) (es : List Entry) → IsChangeList es
    → numbered number changes ≡ Some es → first_below_zero bag.held es ≡ None → Plans bag changes (Revert number) (change_back bag.held es)
plans_above bag changes number es rises found none = record {
  known = refl;
  allowed = refl;
  fits = refl;
  stood = stood changes number es found;
  above = above bag.held changes number es found none;
  rises = back_keeps bag.held es rises (above_from_none bag.held es none);
  matches = no_mismatch bag.held (change_back bag.held es) (back_before bag.held es);
  result = sym (makes_found bag changes number es found);
}

pub plans_back : (bag : LimitedCollection) (changes : List (List Entry)) (number : ℕ) (es back : List Entry) → IsChangeList es
    → numbered number changes ≡ Some es → revert_refusal bag es ≡ None → back ≡ change_back bag.held es
    → Plans bag changes (Revert number) back
plans_back bag changes number es back rises found accepted is =
    let Planned : List Entry → Type 0 = λ ds. Plans bag changes (Revert number) ds in
    subst Planned (sym is)
    (plans_above bag changes number es rises found
    (none_by (is_high_back bag es) (is_many_back bag es) (first_below_zero bag.held es) (refused_is bag es ∙ accepted)))

-- ---- the refusals

below_zero : (bag : LimitedCollection) (changes : List (List Entry)) (number : ℕ) (es : List Entry) → numbered number changes ≡ Some es
    → is_some (first_below_zero bag.held es) ≡ true → plan_refusal bag changes (Revert number) ≡ Some BelowZero
unfolding below
below_zero bag changes number es found is =
    cond-false _ _ _ (stood changes number es found) ∙ cond-true _ _ _ (below_found bag.held changes number (Some es) found ∙ is)

any_back : (c : ℕ) (hs : Collection) (es : List Entry)
    → list_any (λ (e : Entry). ltb c e.after) (change_back hs es) ≡ list_any (λ e. nat_lt c (count_back hs e)) es
any_back c hs [] = refl
any_back c hs (e ∷ es) = ap (λ t. nat_lt c (count_back hs e) || t) (any_back c hs es)

-- whether a count of what is left passes the limit
high_back : (bag : LimitedCollection) (changes : List (List Entry)) (number : ℕ) (es : List Entry) → IsBag bag → IsChangeList es
    → numbered number changes ≡ Some es → first_below_zero bag.held es ≡ None
    → has_count_above (count_limit bag.limits) (edited_by changes (Revert number) bag.held) ≡ is_high_back bag es
unfolding is_high_back
high_back bag changes number es b rises found none =
    ap (λ hs. has_count_above (count_limit bag.limits) hs) (makes_found bag changes number es found)
    ∙ any_above_changed (count_limit bag.limits) bag.held (change_back bag.held es) b.rises
    (back_keeps bag.held es rises (above_from_none bag.held es none)) b.small
    ∙ any_back (count_limit bag.limits) bag.held es

may_want : (none high many : Bool)
    → MayWantMemory (cond none (Some NoChange) (cond high (Some TooManyCopies) (cond many (Some TooManyPairs) None)))
may_want true high many = tt
may_want false true many = tt
may_want false false true = tt
may_want false false false = tt

wanting : (bag : LimitedCollection) (changes : List (List Entry)) (number : ℕ) (es : List Entry) → IsBag bag → IsChangeList es
    → numbered number changes ≡ Some es → first_below_zero bag.held es ≡ None → MayWantMemory (plan_refusal bag changes (Revert number))
wanting bag changes number es b rises found none =
    let back = change_back bag.held es in
    let May : Option EditError → Type 0 = λ refusal. MayWantMemory refusal in
    subst May (sym (planned_refusal bag changes (Revert number) back b (plans_above bag changes number es rises found none)))
    (may_want (length back == 0) (list_any (λ (e : Entry). nat_lt (count_limit bag.limits) e.after) back)
    (nat_lt (pairs_limit bag.limits) (length (taken_back bag.held es))))

-- a change that a bag refuses to take back has no plan for the same reason
pub refused_back : (bag : LimitedCollection) (changes : List (List Entry)) (number : ℕ) (es : List Entry) (error : RevertError) → IsBag bag
    → IsChangeList es → numbered number changes ≡ Some es → IsRevertRefusal error (revert_refusal bag es)
    → IsPlanRefusal bag changes (Revert number) (revert_error error)
unfolding is_many_back
refused_back bag changes number es (revert.BelowZero place) b rises found is =
    below_zero bag changes number es found
    (below_by (is_high_back bag es) (is_many_back bag es) (first_below_zero bag.held es) place (refused_is bag es ∙ is))
refused_back bag changes number es revert.TooManyCopies b rises found is =
    let parts = copies_by (is_high_back bag es) (is_many_back bag es) (first_below_zero bag.held es) (refused_is bag es ∙ is) in
    too_high bag changes (Revert number) b refl refl refl (stood changes number es found) (above bag.held changes number es found parts.0)
    (high_back bag changes number es b rises found parts.0 ∙ parts.1)
refused_back bag changes number es revert.TooManyPairs b rises found is =
    let parts = pairs_by (is_high_back bag es) (is_many_back bag es) (first_below_zero bag.held es) (refused_is bag es ∙ is) in
    too_many bag changes (Revert number) b refl refl refl (stood changes number es found) (above bag.held changes number es found parts.0)
    (high_back bag changes number es b rises found parts.0 ∙ parts.1)
    (ap (λ hs. nat_lt (pairs_limit bag.limits) (length hs)) (makes_found bag changes number es found) ∙ parts.2)
refused_back bag changes number es revert.OutOfMemory b rises found is =
    wanting bag changes number es b rises found
    (none_by (is_high_back bag es) (is_many_back bag es) (first_below_zero bag.held es) (refused_is bag es ∙ is))

-- one that a bag takes back is refused if it changes nothing, or not at all
fits_or_same : (same : Bool) → (cond same (Some NoChange) None ≡ None) ⊎ (cond same (Some NoChange) None ≡ Some NoChange)
fits_or_same true = inr refl
fits_or_same false = inl refl

pub has_plan_back : (bag : LimitedCollection) (changes : List (List Entry)) (number : ℕ) (es : List Entry) → IsBag bag → IsChangeList es
    → numbered number changes ≡ Some es → revert_refusal bag es ≡ None
    → (plan_refusal bag changes (Revert number) ≡ None) ⊎ (plan_refusal bag changes (Revert number) ≡ Some NoChange)
unfolding is_high_back is_many_back
has_plan_back bag changes number es b rises found accepted =
    let parts = fits_by (is_high_back bag es) (is_many_back bag es) (first_below_zero bag.held es) (refused_is bag es ∙ accepted) in
    let back = change_back bag.held es in
    let same = length back == 0 in
    let by : plan_refusal bag changes (Revert number) ≡ cond same (Some NoChange) None =
    planned_refusal bag changes (Revert number) back b (plans_above bag changes number es rises found parts.0)
    ∙ ap (λ t. cond same (Some NoChange) (cond t (Some TooManyCopies) (cond (is_many_back bag es) (Some TooManyPairs) None)))
    (any_back (count_limit bag.limits) bag.held es ∙ parts.1)
    ∙ ap (λ t. cond same (Some NoChange) (cond t (Some TooManyPairs) None)) parts.2 in
    let Either : Option EditError → Type 0 = λ refusal. (refusal ≡ None) ⊎ (refusal ≡ Some NoChange) in
    subst Either (sym by) (fits_or_same same)

-- only want of memory is answered as such
pub wants_back : (error : RevertError) (refusal : Option RevertError) → IsRevertRefusal error refusal
    → revert_error error ≡ OutOfMemory → refusal ≡ None
wants_back (revert.BelowZero place) refusal is wants = cc
wants_back revert.TooManyCopies refusal is wants = cc
wants_back revert.TooManyPairs refusal is wants = cc
wants_back revert.OutOfMemory refusal is wants = is

-- a bag never refuses to take a change back because nothing would change
pub never_same : (error : RevertError) → revert_error error ≢ NoChange
never_same (revert.BelowZero place) is = cc
never_same revert.TooManyCopies is = cc
never_same revert.TooManyPairs is = cc
never_same revert.OutOfMemory is = cc

-- ---- the law

none_from_below : (found : Option ℕ) → is_some found ≡ false → found ≡ None
none_from_below None is = refl
none_from_below (Some place) is = cc

pub first_above : (hs : Collection) (changes : List (List Entry)) (number : ℕ) (es : List Entry) → numbered number changes ≡ Some es
    → goes_below_zero changes (Revert number) hs ≡ false → first_below_zero hs es ≡ None
unfolding below
first_above hs changes number es found stays =
    none_from_below (first_below_zero hs es) (sym (below_found hs changes number (Some es) found) ∙ stays)

-- each count is less by the difference that the numbered change has for its pair
pub subtracts : (hs : Collection) (changes : List (List Entry)) (number : ℕ) (es : List Entry) (pair : Pair) → IsCollection hs
    → IsChangeList es → numbered number changes ≡ Some es → goes_below_zero changes (Revert number) hs ≡ false
    → pos (count_in (edited_by changes (Revert number) hs) pair) ≡ pos (count_in hs pair) -ℤ gain_of (counts_at es (rank_of pair))
subtracts hs changes number es pair is rises found stays =
    let none = first_above hs changes number es found stays in
    ap (λ o. pos (count_in (without_change o hs) pair)) found
    ∙ gain_taken hs es pair is rises (above_from_none hs es none)
