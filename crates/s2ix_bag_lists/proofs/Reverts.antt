-- When a bag takes a change back.
use Rattle.std.proofs.Common.{◌≡◌, ℕ, ◌+◌, ◌-◌, ◌==◌, nat_lt, cond, false, List, [], ◌∷◌, length, count_by, arith, Option, Some, None, refl, sym, ap, ap₂, ◌∙◌, ltb-false}
use Rattle.std.specs.List.{list_any}
use Rattle.std.proofs.lemmas.Bool.{or_parts}
use Rattle.std.proofs.lemmas.List.Recursion.{is_count_by}
use Rattle.s2ix_bag_lists.specs.Apply.{AreBefore}
use Rattle.s2ix_bag_lists.specs.Revert.{revert_refusal}
use Rattle.s2ix_bag_lists.specs.declared.errors.RevertError.{RevertError}
use Rattle.s2ix_bag_lists.specs.declared.errors.RevertError.TheVariants.{BelowZero, TooManyCopies, TooManyPairs}
use Rattle.s2ix_bag_pairs.specs.Collection.{Collection, LimitedCollection, IsCollection, count_in}
use Rattle.s2ix_bag_pairs.specs.Change.{IsChangeList, inverse_of}
use Rattle.s2ix_bag_pairs.specs.Limits.{pairs_limit, count_limit}
use Rattle.s2ix_bag_pairs.specs.TakenBack.{count_back, first_below_zero, change_back, taken_back}
use Rattle.s2ix_bag_pairs.specs.declared.pair.Entry.{Entry}
use Rattle.s2ix_bag_pairs.proofs.TakenBack.{AreAboveZero, above_from_none, back_keeps}
use Rattle.s2ix_bag_lists.proofs.Lengths.{AreAfterWithin, gains, losses, length-changed}
use Rattle.s2ix_bag_lists.proofs.Refusals.{IsTaken, within_both}

-- the change that takes a change back has the right counts before
pub back_before : (hs : Collection) (es : List Entry) → AreBefore hs (change_back hs es)
back_before hs [] = tt
back_before hs (e ∷ es) = (refl, back_before hs es)

-- right after a change, whose inverse has the right counts before, what takes it back is that inverse
pub back_at_once : (hs : Collection) (es : List Entry) → AreBefore hs (inverse_of es) → change_back hs es ≡ inverse_of es
back_at_once hs [] befores = refl
back_at_once hs (e ∷ es) befores =
    let left : count_in hs e.pair + e.before - e.after ≡ e.before = omega (arith, befores.0) in
    ap₂ (λ (x : Entry) (xs : List Entry). x ∷ xs)
    (ap₂ (λ (b a : ℕ). let made : Entry = record { pair = e.pair; before = b; after = a } in made) (sym befores.0) left)
    (back_at_once hs es befores.1)

back_within : (c : ℕ) (hs : Collection) (es : List Entry) → list_any (λ e. nat_lt c (count_back hs e)) es ≡ false
    → AreAfterWithin c (change_back hs es)
back_within c hs [] none = tt
back_within c hs (e ∷ es) none =
    let parts = or_parts (nat_lt c (count_back hs e)) (list_any (λ x. nat_lt c (count_back hs x)) es) none in
    (ltb-false c (count_back hs e) parts.0, back_within c hs es parts.1)

-- ---- how many pairs are held then

gains_back : (hs : Collection) (es : List Entry) → gains (change_back hs es) ≡ count_by (λ e. count_in hs e.pair == 0) es
gains_back hs es = is_count_by (λ fs. gains (change_back hs fs)) (λ e. count_in hs e.pair == 0) refl (λ _ _. refl) es

losses_back : (hs : Collection) (es : List Entry) → losses (change_back hs es) ≡ count_by (λ e. count_back hs e == 0) es
losses_back hs es = is_count_by (λ fs. losses (change_back hs fs)) (λ e. count_back hs e == 0) refl (λ _ _. refl) es

-- the pairs that aren't held now come to those that are, and those that would be held no more go
pub length-taken_back : (hs : Collection) (es : List Entry) → IsCollection hs → IsChangeList es → first_below_zero hs es ≡ None
    → length (taken_back hs es) + count_by (λ e. count_back hs e == 0) es ≡ length hs + count_by (λ e. count_in hs e.pair == 0) es
length-taken_back hs es hs_is es_is none =
    let back_is = back_keeps hs es es_is (above_from_none hs es none) in
    let lengths = length-changed hs (change_back hs es) hs_is back_is (back_before hs es) in
    omega (arith, lengths, gains_back hs es, losses_back hs es)

-- ---- a change that is taken back

-- a bag takes a change back: no entry is below 0, and the bag takes the change that takes it back
pub record IsTakenBack (bag : LimitedCollection) (es : List Entry) : Type 0 where
  pub above : AreAboveZero bag.held es
  pub taken : IsTaken bag (change_back bag.held es)

-- the refusal, by the first entry below 0
refusal_at : LimitedCollection → List Entry → Option ℕ → Option RevertError
refusal_at bag es (Some place) = Some (BelowZero place)
refusal_at bag es None =
    cond (list_any (λ e. nat_lt (count_limit bag.limits) (count_back bag.held e)) es) (Some TooManyCopies)
    (cond (nat_lt (pairs_limit bag.limits) (length (taken_back bag.held es))) (Some TooManyPairs) None)

refusal_is : (bag : LimitedCollection) (es : List Entry) (below : Option ℕ) → first_below_zero bag.held es ≡ below
    → revert_refusal bag es ≡ refusal_at bag es below
unfolding refusal_at
refusal_is bag es below is = ap (λ m. refusal_at bag es m) is

taken_back_at : (bag : LimitedCollection) (es : List Entry) (below : Option ℕ) → first_below_zero bag.held es ≡ below
    → refusal_at bag es below ≡ None → IsTakenBack bag es
unfolding refusal_at
taken_back_at bag es (Some place) is none = cc
taken_back_at bag es None is none =
    let within = within_both _ (pairs_limit bag.limits) (length (taken_back bag.held es)) TooManyCopies TooManyPairs none in
    record {
      above = above_from_none bag.held es is;
      taken = record {
        before = back_before bag.held es;
        within = back_within (count_limit bag.limits) bag.held es within.0;
        within_limit = within.1;
      };
    }

-- a bag takes a change back that it doesn't refuse to
pub taken_back_from_none : (bag : LimitedCollection) (es : List Entry) → revert_refusal bag es ≡ None → IsTakenBack bag es
taken_back_from_none bag es none =
    taken_back_at bag es (first_below_zero bag.held es) refl (sym (refusal_is bag es (first_below_zero bag.held es) refl) ∙ none)
