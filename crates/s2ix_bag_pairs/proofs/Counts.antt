-- What a collection counts, pair by pair.
use Rattle.std.proofs.Common.{◌≡◌, ℕ, zero, suc, ◌+◌, ◌<◌, ◌≤◌, [], ◌∷◌, refl, ◌∙◌, arith, eq-eqb, ne_eqb, lt-ltb, le-ltb}
use Rattle.std.proofs.lemmas.Bool.{cond-true, cond-false}
use Rattle.s2ix_bag_pairs.specs.Collection.{Collection, IsCollectionFrom, count_at, held_with, set_count}
use Rattle.s2ix_bag_pairs.specs.Pair.{rank_of}
use Rattle.s2ix_bag_pairs.specs.declared.pair.Pair.{Pair}
use Rattle.s2ix_bag_pairs.specs.declared.pair.Held.{Held}

-- ---- one held pair before a collection

pub count_head : (h : Held) (hs : Collection) (k : ℕ) → rank_of h.pair ≡ k → count_at (h ∷ hs) k ≡ h.count
count_head h hs k e = cond-true _ _ _ (eq-eqb _ _ e)

pub count_tail : (h : Held) (hs : Collection) (k : ℕ) → (rank_of h.pair ≡ k → ⊥) → count_at (h ∷ hs) k ≡ count_at hs k
count_tail h hs k ne = cond-false _ _ _ (ne_eqb _ _ ne)

-- ---- ranks rise

pub from_lower : (m n : ℕ) (hs : Collection) → m ≤ n → IsCollectionFrom n hs → IsCollectionFrom m hs
from_lower m n [] le c = tt
from_lower m n (h ∷ hs) le c = (omega arith, c.1, c.2)

-- a pair below the first is not held
pub count_below : (n : ℕ) (hs : Collection) (k : ℕ) → IsCollectionFrom n hs → k < n → count_at hs k ≡ 0
count_below n [] k c lt = refl
count_below n (h ∷ hs) k c lt =
    count_tail h hs k (λ e. omega arith) ∙ count_below (rank_of h.pair + 1) hs k c.2 (omega arith)

-- ---- a pair held with a count, before a collection

pub count_held_same : (p : Pair) (n : ℕ) (hs : Collection) → IsCollectionFrom (rank_of p + 1) hs
    → count_at (held_with p n hs) (rank_of p) ≡ n
count_held_same p zero hs c = count_below (rank_of p + 1) hs (rank_of p) c (omega arith)
count_held_same p (suc n) hs c = count_head (record { pair = p; count = suc n }) hs (rank_of p) refl

pub count_held_other : (p : Pair) (n : ℕ) (hs : Collection) (k : ℕ) → (rank_of p ≡ k → ⊥) → count_at (held_with p n hs) k ≡ count_at hs k
count_held_other p zero hs k ne = refl
count_held_other p (suc n) hs k ne = count_tail (record { pair = p; count = suc n }) hs k ne

pub held_keeps : (m : ℕ) (p : Pair) (n : ℕ) (hs : Collection) → m ≤ rank_of p → IsCollectionFrom (rank_of p + 1) hs
    → IsCollectionFrom m (held_with p n hs)
held_keeps m p zero hs le c = from_lower m (rank_of p + 1) hs (omega arith) c
held_keeps m p (suc n) hs le c = (le, omega arith, c)

-- ---- the count of one pair set: where the pair stands before, at and after the first

pub set_before : (p : Pair) (n : ℕ) (h : Held) (hs : Collection) → rank_of p < rank_of h.pair
    → set_count p n (h ∷ hs) ≡ held_with p n (h ∷ hs)
set_before p n h hs lt = cond-true _ _ _ (lt-ltb _ _ lt)

pub set_at : (p : Pair) (n : ℕ) (h : Held) (hs : Collection) → rank_of p ≡ rank_of h.pair → set_count p n (h ∷ hs) ≡ held_with p n hs
set_at p n h hs e =
    let le : rank_of h.pair ≤ rank_of p = omega arith in
    cond-false _ _ _ (le-ltb _ _ le) ∙ cond-true _ _ _ (eq-eqb _ _ e)

pub set_after : (p : Pair) (n : ℕ) (h : Held) (hs : Collection) → rank_of h.pair < rank_of p → set_count p n (h ∷ hs) ≡ h ∷ set_count p n hs
set_after p n h hs lt =
    let le : rank_of h.pair ≤ rank_of p = omega arith in
    let ne : rank_of p ≡ rank_of h.pair → ⊥ = λ e. omega arith in
    cond-false _ _ _ (le-ltb _ _ le) ∙ cond-false _ _ _ (ne_eqb _ _ ne)
