-- The laws of a collection as a map from pairs to counts.
use Rattle.std.proofs.Common.{◌≡◌, ◌≢◌, ℕ, zero, suc, ◌+◌, ◌<◌, ◌≤◌, [], ◌∷◌, length, get_or, Contains, refl, sym, ap, ap₂, ◌∙◌, subst, ⊎_elim, arith}
use Rattle.std.proofs.lemmas.Bool.{cases_eq, cases_order}
use Rattle.s2ix_bag_pairs.specs.Collection.{Collection, IsCollection, IsCollectionFrom, count_at, count_in, set_count}
use Rattle.s2ix_bag_pairs.specs.Pair.{rank_of}
use Rattle.s2ix_bag_pairs.specs.declared.pair.Pair.{Pair}
use Rattle.s2ix_bag_pairs.specs.declared.pair.Held.{Held}
use Rattle.s2ix_bag_pairs.proofs.Pairs.{same_held}
use Rattle.s2ix_bag_pairs.proofs.Counts.{count_head, count_tail, from_lower, count_below, count_held_same, count_held_other, held_keeps, set_before, set_at, set_after}

-- ---- what is held is counted

pub held_counted : (n : ℕ) (h : Held) (hs : Collection) → IsCollectionFrom n (h ∷ hs) → 0 < count_at (h ∷ hs) (rank_of h.pair)
held_counted n h hs c = omega (arith, count_head h hs (rank_of h.pair) refl, c.1)

-- ranks from n on, at each place
pub rank_of_get : (n : ℕ) (hs : Collection) (k : ℕ) (d : Held) → IsCollectionFrom n hs → k < length hs → n ≤ rank_of (get_or hs k d).pair
rank_of_get n [] k d hs_is within = absurd (omega arith)
rank_of_get n (h ∷ hs) zero d hs_is within = hs_is.0
rank_of_get n (h ∷ hs) (suc k) d hs_is within = omega (arith, rank_of_get (rank_of h.pair + 1) hs k d hs_is.2 (omega arith), hs_is.0)

count_get : (n : ℕ) (hs : Collection) (k : ℕ) (d : Held) → IsCollectionFrom n hs → k < length hs
    → count_at hs (rank_of (get_or hs k d).pair) ≡ (get_or hs k d).count
count_get n [] k d hs_is within = absurd (omega arith)
count_get n (h ∷ hs) zero d hs_is within = count_head h hs (rank_of h.pair) refl
count_get n (h ∷ hs) (suc k) d hs_is within =
    let later = rank_of_get (rank_of h.pair + 1) hs k d hs_is.2 (omega arith) in
    count_tail h hs (rank_of (get_or hs k d).pair) (λ e. omega (arith, e, later))
    ∙ count_get (rank_of h.pair + 1) hs k d hs_is.2 (omega arith)

-- what a collection holds has its count
pub held_count : (hs : Collection) (h : Held) → IsCollection hs → Contains hs h → count_in hs h.pair ≡ h.count
held_count hs h hs_is held =
    let Counted : Held → Type 0 = λ x. count_in hs x.pair ≡ x.count in
    subst Counted held.2 (count_get 0 hs held.0 h hs_is held.1)

-- a pair with a count above 0 is held with it
pub counted_held : (hs : Collection) (p : Pair) → 0 < count_in hs p → Contains hs (record { pair = p; count = count_in hs p })
counted_held [] p counted = absurd (omega arith)
counted_held (h ∷ hs) p counted =
    ⊎_elim
    (λ same. (0, omega arith, same_held h (record { pair = p; count = count_in (h ∷ hs) p }) same (sym (count_head h hs (rank_of p) same))))
    (λ ne.
    let tail = count_tail h hs (rank_of p) ne in
    let rest = counted_held hs p (omega (arith, counted, tail)) in
    let In : ℕ → Type 0 = λ n. Contains (h ∷ hs) (record { pair = p; count = n }) in
    subst In (sym tail) (suc rest.0, omega (arith, rest.1), rest.2))
    (cases_eq (rank_of h.pair) (rank_of p))

-- ---- two collections with the same counts are one

SameCounts : ℕ → Collection → Collection → Type 0
SameCounts n hs ks = (p : Pair) → n ≤ rank_of p → count_at hs (rank_of p) ≡ count_at ks (rank_of p)

first_is_held : (n : ℕ) (h k : Held) (hs ks : Collection) → IsCollectionFrom n (h ∷ hs) → IsCollectionFrom n (k ∷ ks)
    → count_at (h ∷ hs) (rank_of h.pair) ≡ count_at (k ∷ ks) (rank_of h.pair) → rank_of k.pair ≤ rank_of h.pair
first_is_held n h k hs ks hs_is ks_is same =
    ⊎_elim (λ e. omega arith)
    (λ order. ⊎_elim
    (λ lt.
    let none = count_below (rank_of k.pair) (k ∷ ks) (rank_of h.pair) (omega arith, ks_is.1, ks_is.2) lt in
    absurd (omega (arith, same, held_counted n h hs hs_is, none)))
    (λ lt. omega arith) order)
    (cases_order (rank_of h.pair) (rank_of k.pair))

tails_same : (n : ℕ) (h k : Held) (hs ks : Collection) → n ≤ rank_of h.pair → rank_of h.pair ≡ rank_of k.pair
    → SameCounts n (h ∷ hs) (k ∷ ks) → SameCounts (rank_of h.pair + 1) hs ks
unfolding SameCounts
tails_same n h k hs ks le e same =
    λ p above.
    let h_ne : rank_of h.pair ≡ rank_of p → ⊥ = λ eq. omega (arith, eq, above) in
    let k_ne : rank_of k.pair ≡ rank_of p → ⊥ = λ eq. omega (arith, eq, above) in
    let le_p : n ≤ rank_of p = omega (arith, above) in
    sym (count_tail h hs (rank_of p) h_ne) ∙ same p le_p ∙ count_tail k ks (rank_of p) k_ne

same_from : (n : ℕ) (hs ks : Collection) → IsCollectionFrom n hs → IsCollectionFrom n ks → SameCounts n hs ks → hs ≡ ks
unfolding SameCounts
same_from n [] [] hs_is ks_is same = refl
same_from n [] (k ∷ ks) hs_is ks_is same = absurd (omega (arith, same k.pair ks_is.0, held_counted n k ks ks_is))
same_from n (h ∷ hs) [] hs_is ks_is same = absurd (omega (arith, same h.pair hs_is.0, held_counted n h hs hs_is))
same_from n (h ∷ hs) (k ∷ ks) hs_is ks_is same =
    let below = first_is_held n h k hs ks hs_is ks_is (same h.pair hs_is.0) in
    let above = first_is_held n k h ks hs ks_is hs_is (sym (same k.pair ks_is.0)) in
    let e : rank_of h.pair ≡ rank_of k.pair = omega (arith, below, above) in
    let counts : h.count ≡ k.count =
    sym (count_head h hs (rank_of h.pair) refl) ∙ same h.pair hs_is.0 ∙ count_head k ks (rank_of h.pair) (sym e) in
    let ks_from : IsCollectionFrom (rank_of h.pair + 1) ks =
    from_lower (rank_of h.pair + 1) (rank_of k.pair + 1) ks (omega (arith, e)) ks_is.2 in
    ap₂ (λ (x : Held) (xs : Collection). x ∷ xs) (same_held h k e counts)
    (same_from (rank_of h.pair + 1) hs ks hs_is.2 ks_from (tails_same n h k hs ks hs_is.0 e same))

-- two collections with the same count of every pair are equal
pub same_collection : (hs ks : Collection) → IsCollection hs → IsCollection ks → ((p : Pair) → count_in hs p ≡ count_in ks p) → hs ≡ ks
unfolding SameCounts
same_collection hs ks hs_is ks_is same = same_from 0 hs ks hs_is ks_is (λ p le. same p)

-- ---- the count of one pair set

pub count_set_other : (p : Pair) (n : ℕ) (hs : Collection) (k : ℕ) → (rank_of p ≡ k → ⊥) → count_at (set_count p n hs) k ≡ count_at hs k
count_set_other p n [] k ne = count_held_other p n [] k ne
count_set_other p n (h ∷ hs) k ne =
    ⊎_elim
    (λ e. ap (λ x. count_at x k) (set_at p n h hs e) ∙ count_held_other p n hs k ne
    ∙ sym (count_tail h hs k (λ eq. ne (e ∙ eq))))
    (λ order. ⊎_elim
    (λ lt. ap (λ x. count_at x k) (set_before p n h hs lt) ∙ count_held_other p n (h ∷ hs) k ne)
    (λ lt. ap (λ x. count_at x k) (set_after p n h hs lt)
    ∙ ⊎_elim
    (λ e. count_head h (set_count p n hs) k e ∙ sym (count_head h hs k e))
    (λ no. count_tail h (set_count p n hs) k no ∙ count_set_other p n hs k ne ∙ sym (count_tail h hs k no))
    (cases_eq (rank_of h.pair) k))
    order)
    (cases_order (rank_of p) (rank_of h.pair))

pub count_set_same : (m : ℕ) (p : Pair) (n : ℕ) (hs : Collection) → IsCollectionFrom m hs → count_at (set_count p n hs) (rank_of p) ≡ n
count_set_same m p n [] c = count_held_same p n [] tt
count_set_same m p n (h ∷ hs) c =
    ⊎_elim
    (λ e. ap (λ x. count_at x (rank_of p)) (set_at p n h hs e)
    ∙ count_held_same p n hs (from_lower (rank_of p + 1) (rank_of h.pair + 1) hs (omega (arith, e)) c.2))
    (λ order. ⊎_elim
    (λ lt. ap (λ x. count_at x (rank_of p)) (set_before p n h hs lt)
    ∙ count_held_same p n (h ∷ hs) (omega (arith, lt), c.1, c.2))
    (λ lt. ap (λ x. count_at x (rank_of p)) (set_after p n h hs lt)
    ∙ count_tail h (set_count p n hs) (rank_of p) (λ e. omega (arith, e, lt))
    ∙ count_set_same (rank_of h.pair + 1) p n hs c.2)
    order)
    (cases_order (rank_of p) (rank_of h.pair))

pub set_keeps_from : (m : ℕ) (p : Pair) (n : ℕ) (hs : Collection) → m ≤ rank_of p → IsCollectionFrom m hs
    → IsCollectionFrom m (set_count p n hs)
set_keeps_from m p n [] le c = held_keeps m p n [] le tt
set_keeps_from m p n (h ∷ hs) le c =
    let Rises : Collection → Type 0 = λ x. IsCollectionFrom m x in
    ⊎_elim
    (λ e. subst Rises (sym (set_at p n h hs e))
    (held_keeps m p n hs le (from_lower (rank_of p + 1) (rank_of h.pair + 1) hs (omega (arith, e)) c.2)))
    (λ order. ⊎_elim
    (λ lt. subst Rises (sym (set_before p n h hs lt)) (held_keeps m p n (h ∷ hs) le (omega (arith, lt), c.1, c.2)))
    (λ lt. subst Rises (sym (set_after p n h hs lt))
    (c.0, c.1, set_keeps_from (rank_of h.pair + 1) p n hs (omega (arith, lt)) c.2))
    order)
    (cases_order (rank_of p) (rank_of h.pair))

-- a collection with the count of one pair set is a collection
pub set_keeps : (p : Pair) (n : ℕ) (hs : Collection) → IsCollection hs → IsCollection (set_count p n hs)
set_keeps p n hs c = set_keeps_from 0 p n hs (omega arith) c

-- its counts: the one that is set
pub count_in-set_count_same : (p : Pair) (n : ℕ) (hs : Collection) → IsCollection hs → count_in (set_count p n hs) p ≡ n
count_in-set_count_same p n hs c = count_set_same 0 p n hs c

-- and every other as it was
pub count_in-set_count_other : (p : Pair) (n : ℕ) (hs : Collection) (q : Pair) → rank_of p ≢ rank_of q
    → count_in (set_count p n hs) q ≡ count_in hs q
count_in-set_count_other p n hs q ne = count_set_other p n hs (rank_of q) ne

-- a count set to what it is changes nothing
pub set_count_in : (p : Pair) (hs : Collection) → IsCollection hs → set_count p (count_in hs p) hs ≡ hs
set_count_in p hs c =
    same_collection (set_count p (count_in hs p) hs) hs (set_keeps p (count_in hs p) hs c) c
    (λ q. ⊎_elim
    (λ e.
    ap (λ k. count_at (set_count p (count_in hs p) hs) k) (sym e) ∙ count_set_same 0 p (count_in hs p) hs c ∙ ap (λ k. count_at hs k) e)
    (λ ne. count_set_other p (count_in hs p) hs (rank_of q) ne)
    (cases_eq (rank_of p) (rank_of q)))
