-- When a bag takes a change.
use Rattle.std.proofs.Common.{◌≡◌, ℕ, ◌+◌, ◌*◌, ◌<◌, ◌≤◌, ◌==◌, nat_lt, not, ◌||◌, cond, Bool, true, false, List, [], ◌∷◌, length, All, Option, Some, None, position, refl, sym, ap, ◌∙◌, ⊎_elim, inl, inr, ◌⊎◌, arith, eq-eqb, ne_eqb, ltb-false, lt-ltb, le-ltb, mul-le-mul}
use Rattle.std.specs.List.{list_any, position_or_len}
use Rattle.std.proofs.lemmas.Bool.{cases_eq, cases_lt, or_parts, cond-true, cond-false}
use Rattle.std.proofs.lemmas.List.Elements.{All-head, All-tail}
use Rattle.std.proofs.lemmas.List.Sums.{sum_by-le}
use Rattle.s2ix_bag_lists.specs.Apply.{AreBefore, first_mismatch, apply_refusal}
use Rattle.s2ix_bag_pairs.specs.Collection.{Collection, LimitedCollection, IsBag, count_at, count_in, copies_in}
use Rattle.s2ix_bag_pairs.specs.Change.{IsChangeList, changed, change_between, counts_at, inverse_of}
use Rattle.s2ix_bag_pairs.specs.Limits.{count_limit, pairs_limit}
use Rattle.s2ix_bag_pairs.specs.Pair.{rank_of}
use Rattle.s2ix_bag_lists.specs.declared.errors.ApplyError.{ApplyError}
use Rattle.s2ix_bag_lists.specs.declared.errors.ApplyError.TheVariants.{Mismatch, TooManyCopies, TooManyPairs}
use Rattle.s2ix_bag_pairs.specs.declared.pair.Held.{Held}
use Rattle.s2ix_bag_pairs.specs.declared.pair.Entry.{Entry}
use Rattle.s2ix_bag_pairs.proofs.Changes.{changed_keeps}
use Rattle.s2ix_bag_pairs.proofs.Counts.{count_tail, count_head}
use Rattle.s2ix_bag_lists.proofs.Applied.{changed_inverse, change_between-changed, before_from_counts}
use Rattle.s2ix_bag_pairs.proofs.Differences.{counts_between_at}
use Rattle.s2ix_bag_pairs.proofs.Inverse.{inverse_keeps, inverse_between}
use Rattle.s2ix_bag_lists.proofs.Lengths.{AreAfterWithin, small_changed}

-- ---- the first mismatch

-- the entry's count before is not the collection's
abbrev pub is_mismatch : Collection → Entry → Bool
is_mismatch hs e = not (e.before == count_in hs e.pair)

mismatch_cases : (hs : Collection) (e : Entry)
    → ((is_mismatch hs e ≡ false) × (e.before ≡ count_in hs e.pair)) ⊎ ((is_mismatch hs e ≡ true) × (e.before ≡ count_in hs e.pair → ⊥))
mismatch_cases hs e =
    ⊎_elim
    (λ same. inl (ap not (eq-eqb _ _ same), same))
    (λ ne. inr (ap not (ne_eqb _ _ ne), ne))
    (cases_eq e.before (count_in hs e.pair))

all_before : (hs : Collection) (es : List Entry) → length es ≤ position_or_len (is_mismatch hs) es → AreBefore hs es
all_before hs [] le = tt
all_before hs (e ∷ es) le =
    ⊎_elim
    (λ fits.
    let passed = cond-true (not (is_mismatch hs e)) (1 + position_or_len (is_mismatch hs) es) 0 (ap not fits.0) in
    (fits.1, all_before hs es (omega (arith, le, passed))))
    (λ differs.
    let found = cond-false (not (is_mismatch hs e)) (1 + position_or_len (is_mismatch hs) es) 0 (ap not differs.0) in
    absurd (omega (arith, le, found)))
    (mismatch_cases hs e)

no_position : (hs : Collection) (es : List Entry) → AreBefore hs es → position_or_len (is_mismatch hs) es ≡ length es
no_position hs [] befores = refl
no_position hs (e ∷ es) befores =
    cond-true (not (is_mismatch hs e)) (1 + position_or_len (is_mismatch hs) es) 0 (ap (λ t. not (not t)) (eq-eqb _ _ befores.0))
    ∙ omega (arith, no_position hs es befores.1)

pub position_is : (hs : Collection) (es : List Entry) → position_or_len (is_mismatch hs) es < length es
    → position (is_mismatch hs) es ≡ Some (position_or_len (is_mismatch hs) es)
position_is hs es lt = cond-true _ _ _ (lt-ltb _ _ lt)

pub position_none : (hs : Collection) (es : List Entry) → length es ≤ position_or_len (is_mismatch hs) es
    → position (is_mismatch hs) es ≡ None
position_none hs es le = cond-false _ _ _ (le-ltb _ _ le)

-- no entry mismatches exactly if each count before is right
pub before_from_no_mismatch : (hs : Collection) (es : List Entry) → position (is_mismatch hs) es ≡ None → AreBefore hs es
before_from_no_mismatch hs es none =
    ⊎_elim
    (λ lt. let clash : Some (position_or_len (is_mismatch hs) es) ≡ None = sym (position_is hs es lt) ∙ none in cc)
    (λ le. all_before hs es le)
    (cases_lt (position_or_len (is_mismatch hs) es) (length es))

pub no_mismatch : (hs : Collection) (es : List Entry) → AreBefore hs es → position (is_mismatch hs) es ≡ None
no_mismatch hs es befores = position_none hs es (omega (arith, no_position hs es befores))

-- ---- counts after within the limit

pub within_from_none : (c : ℕ) (es : List Entry) → list_any (λ e. nat_lt c e.after) es ≡ false → AreAfterWithin c es
within_from_none c [] none = tt
within_from_none c (e ∷ es) none =
    let parts = or_parts (nat_lt c e.after) (list_any (λ x. nat_lt c x.after) es) none in
    (ltb-false c e.after parts.0, within_from_none c es parts.1)

pub none_from_within : (c : ℕ) (es : List Entry) → AreAfterWithin c es → list_any (λ e. nat_lt c e.after) es ≡ false
none_from_within c [] within = refl
none_from_within c (e ∷ es) within =
    ap (λ t. t || list_any (λ x. nat_lt c x.after) es) (le-ltb c e.after within.0) ∙ none_from_within c es within.1

-- ---- a change that is taken

-- if neither limit refuses, no count is above the one, and no more pairs are held than the other
pub within_both : {E : Type 0} (is_above : Bool) (limit pairs : ℕ) (copies_error pairs_error : E)
    → cond is_above (Some copies_error) (cond (nat_lt limit pairs) (Some pairs_error) None) ≡ None → (is_above ≡ false) × (pairs ≤ limit)
within_both true limit pairs copies_error pairs_error none = cc
within_both false limit pairs copies_error pairs_error none =
    ⊎_elim
    (λ lt. let clash : Some pairs_error ≡ None = sym (cond-true _ _ _ (lt-ltb _ _ lt)) ∙ none in cc)
    (λ le. (refl, le))
    (cases_lt limit pairs)

-- what a bag takes: each count before is right, and what it makes is within the limits
pub record IsTaken (bag : LimitedCollection) (es : List Entry) : Type 0 where
  pub before : AreBefore bag.held es
  pub within : AreAfterWithin (count_limit bag.limits) es
  pub within_limit : length (changed bag.held es) ≤ pairs_limit bag.limits

-- the refusal, by the first mismatch
refusal_at : LimitedCollection → List Entry → Option ℕ → Option ApplyError
refusal_at bag es (Some place) = Some (Mismatch place)
refusal_at bag es None =
    cond (list_any (λ e. nat_lt (count_limit bag.limits) e.after) es) (Some TooManyCopies)
    (cond (nat_lt (pairs_limit bag.limits) (length (changed bag.held es))) (Some TooManyPairs) None)

refusal_is : (bag : LimitedCollection) (es : List Entry) (mismatch : Option ℕ) → first_mismatch bag es ≡ mismatch
    → apply_refusal bag es ≡ refusal_at bag es mismatch
unfolding refusal_at
refusal_is bag es mismatch is = ap (λ m. refusal_at bag es m) is

-- a bag refuses nothing but what it can't take
pub refusal_of_taken : (bag : LimitedCollection) (es : List Entry) → IsTaken bag es → apply_refusal bag es ≡ None
unfolding refusal_at
refusal_of_taken bag es taken =
    refusal_is bag es None (no_mismatch bag.held es taken.before)
    ∙ cond-false _ _ _ (none_from_within (count_limit bag.limits) es taken.within)
    ∙ cond-false _ _ _ (le-ltb _ _ taken.within_limit)

taken_at : (bag : LimitedCollection) (es : List Entry) (mismatch : Option ℕ) → first_mismatch bag es ≡ mismatch
    → refusal_at bag es mismatch ≡ None → IsTaken bag es
unfolding refusal_at
taken_at bag es (Some place) is none = cc
taken_at bag es None is none =
    let within = within_both _ (pairs_limit bag.limits) (length (changed bag.held es)) TooManyCopies TooManyPairs none in
    record {
      before = before_from_no_mismatch bag.held es is;
      within = within_from_none (count_limit bag.limits) es within.0;
      within_limit = within.1;
    }

-- a bag takes a change that it does not refuse
pub taken_from_none : (bag : LimitedCollection) (es : List Entry) → apply_refusal bag es ≡ None → IsTaken bag es
taken_from_none bag es none =
    taken_at bag es (first_mismatch bag es) refl (sym (refusal_is bag es (first_mismatch bag es) refl) ∙ none)

-- what it makes of the change is a bag
pub made_is_bag : (bag : LimitedCollection) (es : List Entry) → IsBag bag → IsChangeList es → IsTaken bag es
    → IsBag (record { limits = bag.limits; held = changed bag.held es })
made_is_bag bag es is_bag es_is taken = record {
  rises = changed_keeps bag.held es is_bag.rises es_is;
  within_limit = taken.within_limit;
  small = small_changed (count_limit bag.limits) bag.held es taken.within is_bag.small;
}

-- ---- the inverse is taken

count_small : (c : ℕ) (hs : Collection) (k : ℕ) → All (λ (h : Held). h.count ≤ c) hs → count_at hs k ≤ c
count_small c [] k small = omega arith
count_small c (h ∷ hs) k small =
    ⊎_elim
    (λ here. omega (arith, count_head h hs k here, All-head (λ (x : Held). x.count ≤ c) h hs small))
    (λ other. omega (arith, count_tail h hs k other, count_small c hs k (All-tail (λ (x : Held). x.count ≤ c) h hs small)))
    (cases_eq (rank_of h.pair) k)

inverse_within : (c : ℕ) (hs : Collection) (es : List Entry) → All (λ (h : Held). h.count ≤ c) hs → AreBefore hs es
    → AreAfterWithin c (inverse_of es)
inverse_within c hs [] small befores = tt
inverse_within c hs (e ∷ es) small befores =
    (omega (arith, befores.0, count_small c hs (rank_of e.pair) small), inverse_within c hs es small befores.1)

-- what a bag makes of a change takes the inverse of that change
pub inverse_taken : (bag : LimitedCollection) (es : List Entry) → IsBag bag → IsChangeList es → IsTaken bag es
    → IsTaken (record { limits = bag.limits; held = changed bag.held es }) (inverse_of es)
inverse_taken bag es is_bag es_is taken =
    let hs = bag.held in
    let ks = changed bag.held es in
    let ks_is = changed_keeps hs es is_bag.rises es_is in
    let back : inverse_of es ≡ change_between ks hs =
    ap inverse_of (sym (change_between-changed hs es is_bag.rises es_is taken.before)) ∙ inverse_between hs ks is_bag.rises ks_is in
    record {
      before = before_from_counts 0 ks hs (inverse_of es) (inverse_keeps es es_is)
          (λ k le. ap (λ fs. counts_at fs k) back ∙ counts_between_at ks hs k ks_is is_bag.rises);
      within = inverse_within (count_limit bag.limits) hs es is_bag.small taken.before;
      within_limit = omega (arith, ap length (changed_inverse hs es is_bag.rises es_is taken.before), is_bag.within_limit);
    }

-- ---- the sum of the counts

-- it is at most as many times the greatest limit on a count as there may be pairs
pub copies_bound : (bag : LimitedCollection) → IsBag bag → copies_in bag.held ≤ 4294967295000000
copies_bound bag is_bag =
    let pairs : length bag.held ≤ 1000000 = omega (arith, is_bag.within_limit, bag.limits.in_range.1) in
    let count : count_limit bag.limits ≤ 4294967295 = bag.limits.in_range.3 in
    let most : length bag.held * count_limit bag.limits ≤ 1000000 * 4294967295 = mul-le-mul pairs count in
    omega (arith, sum_by-le (λ (h : Held). h.count) (count_limit bag.limits) bag.held is_bag.small, most)
