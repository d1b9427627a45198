-- What a change's own entries say of its inverse.
use Rattle.std.proofs.Common.{◌≡◌, ℕ, suc, ◌+◌, ◌==◌, nat_lt, not, ◌||◌, cond, Bool, List, [], ◌∷◌, length, position, Option, Some, None, refl, ap, ap₂}
use Rattle.std.specs.List.{list_any, position_or_len}
use Rattle.s2ix_bag_lists.specs.declared.errors.ApplyError.{ApplyError}
use Rattle.s2ix_bag_lists.specs.declared.errors.ApplyError.TheVariants.{Mismatch, TooManyCopies, TooManyPairs}
use Rattle.s2ix_bag_lists.specs.Apply.{apply_refusal, first_mismatch}
use Rattle.s2ix_bag_pairs.specs.declared.pair.Entry.{Entry}
use Rattle.s2ix_bag_pairs.specs.Change.{changed, exchanged, inverse_of}
use Rattle.s2ix_bag_pairs.specs.Collection.{LimitedCollection, count_in}
use Rattle.s2ix_bag_pairs.specs.Limits.{count_limit, pairs_limit}
use Rattle.s2ix_bag_lists.proofs.Lengths.{gains, losses}

-- ---- where an entry passes

place_of_inverse : (p : Entry → Bool) (es : List Entry) → position_or_len p (inverse_of es) ≡ position_or_len (λ e. p (exchanged e)) es
place_of_inverse p [] = refl
place_of_inverse p (e ∷ es) = ap (λ n. cond (not (p (exchanged e))) (1 + n) 0) (place_of_inverse p es)

length-inverse : (es : List Entry) → length (inverse_of es) ≡ length es
length-inverse [] = refl
length-inverse (e ∷ es) = ap suc (length-inverse es)

position-inverse : (p : Entry → Bool) (es : List Entry) → position p (inverse_of es) ≡ position (λ e. p (exchanged e)) es
position-inverse p es =
    ap₂ (λ (n m : ℕ). let r : Option ℕ = cond (nat_lt n m) (Some n) None in r) (place_of_inverse p es) (length-inverse es)

-- the first entry of the inverse that mismatches has another count after than the bag
pub mismatch_of_inverse : (bag : LimitedCollection) (es : List Entry)
    → first_mismatch bag (inverse_of es) ≡ position (λ e. not (e.after == count_in bag.held e.pair)) es
mismatch_of_inverse bag es = position-inverse (λ e. not (e.before == count_in bag.held e.pair)) es

-- a count after of the inverse is a count before
pub above_of_inverse : (limit : ℕ) (es : List Entry)
    → list_any (λ e. nat_lt limit e.after) (inverse_of es) ≡ list_any (λ e. nat_lt limit e.before) es
above_of_inverse limit [] = refl
above_of_inverse limit (e ∷ es) = ap (λ b. nat_lt limit e.before || b) (above_of_inverse limit es)

-- ---- the refusal

-- by the first entry whose count after is another, and whether a count before is above the limit
abbrev pub refusal_from : LimitedCollection → List Entry → Bool → Option ℕ → Option ApplyError
refusal_from bag es above (Some place) = Some (Mismatch place)
refusal_from bag es above None =
    cond above (Some TooManyCopies)
    (cond (nat_lt (pairs_limit bag.limits) (length (changed bag.held (inverse_of es)))) (Some TooManyPairs) None)

pub refusal_of_inverse : (bag : LimitedCollection) (es : List Entry)
    → apply_refusal bag (inverse_of es)
    ≡ refusal_from bag es (list_any (λ e. nat_lt (count_limit bag.limits) e.before) es)
    (position (λ e. not (e.after == count_in bag.held e.pair)) es)
refusal_of_inverse bag es =
    ap₂ (λ (above : Bool) (m : Option ℕ). refusal_from bag es above m) (above_of_inverse (count_limit bag.limits) es)
    (mismatch_of_inverse bag es)

-- ---- what is gained and lost

pub gains-inverse : (es : List Entry) → gains (inverse_of es) ≡ losses es
gains-inverse [] = refl
gains-inverse (e ∷ es) = ap (λ n. cond (e.after == 0) (1 + n) n) (gains-inverse es)

pub losses-inverse : (es : List Entry) → losses (inverse_of es) ≡ gains es
losses-inverse [] = refl
losses-inverse (e ∷ es) = ap (λ n. cond (e.before == 0) (1 + n) n) (losses-inverse es)
