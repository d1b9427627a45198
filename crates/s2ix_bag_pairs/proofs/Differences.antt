-- The change between two collections.
use Rattle.std.proofs.Common.{◌≡◌, ℕ, ◌+◌, ◌<◌, List, [], ◌∷◌, Some, None, refl, sym, ap, ◌∙◌, subst, ⊎_elim, arith, eq-eqb, ne_eqb}
use Rattle.std.proofs.lemmas.Bool.{cases_eq, cond-true, cond-false}
use Rattle.s2ix_bag_pairs.specs.Collection.{Collection, IsCollection, IsCollectionFrom, count_at, count_in, set_count}
use Rattle.s2ix_bag_pairs.specs.Change.{IsChangeList, IsChangeListFrom, counts_at, difference_of, count_after, changed, joined, differences, change_between}
use Rattle.s2ix_bag_pairs.specs.Pair.{rank_of}
use Rattle.s2ix_bag_pairs.specs.declared.pair.Pair.{Pair}
use Rattle.s2ix_bag_pairs.specs.declared.pair.Held.{Held}
use Rattle.s2ix_bag_pairs.specs.declared.pair.Entry.{Entry}
use Rattle.s2ix_bag_pairs.proofs.Counts.{count_head, count_tail, from_lower}
use Rattle.s2ix_bag_pairs.proofs.Collections.{same_collection, count_set_other, count_set_same, set_keeps_from, set_keeps}
use Rattle.s2ix_bag_pairs.proofs.Changes.{counts_head, counts_tail, counts_below, change_lower, same_change, changed_keeps, count_changed}

-- ---- the counts of a difference

pub no_difference : (m n : ℕ) → m ≡ n → difference_of m n ≡ None
no_difference m n same = cond-true _ _ _ (eq-eqb _ _ same)

pub some_difference : (m n : ℕ) → (m ≡ n → ⊥) → difference_of m n ≡ Some (m, n)
some_difference m n ne = cond-false _ _ _ (ne_eqb _ _ ne)

-- ---- the pairs that are compared

differences_same : (old new : Collection) (h : Held) (hs : Collection) → count_at old (rank_of h.pair) ≡ count_at new (rank_of h.pair)
    → differences old new (h ∷ hs) ≡ differences old new hs
differences_same old new h hs same = cond-true _ _ _ (eq-eqb _ _ same)

differences_is : (n : ℕ) (old new hs : Collection) → IsCollectionFrom n hs → IsChangeListFrom n (differences old new hs)
differences_is n old new [] hs_is = tt
differences_is n old new (h ∷ hs) hs_is =
    let Rises : List Entry → Type 0 = λ es. IsChangeListFrom n es in
    let rest = differences_is (rank_of h.pair + 1) old new hs hs_is.2 in
    ⊎_elim
    (λ same.
    subst Rises (sym (differences_same old new h hs same))
    (change_lower n (rank_of h.pair + 1) (differences old new hs) (omega (arith, hs_is.0)) rest))
    (λ ne. subst Rises (sym (cond-false _ _ _ (ne_eqb _ _ ne))) (hs_is.0, ne, rest))
    (cases_eq (count_at old (rank_of h.pair)) (count_at new (rank_of h.pair)))

-- a pair's own difference is no other pair's
counts_differences_tail : (old new : Collection) (h : Held) (hs : Collection) (k : ℕ) → (rank_of h.pair ≡ k → ⊥)
    → counts_at (differences old new (h ∷ hs)) k ≡ counts_at (differences old new hs) k
counts_differences_tail old new h hs k other =
    ⊎_elim
    (λ same. ap (λ es. counts_at es k) (differences_same old new h hs same))
    (λ ne.
    ap (λ es. counts_at es k) (cond-false _ _ _ (ne_eqb _ _ ne))
    ∙ counts_tail (record { pair = h.pair; before = count_at old (rank_of h.pair); after = count_at new (rank_of h.pair) })
    (differences old new hs) k other)
    (cases_eq (count_at old (rank_of h.pair)) (count_at new (rank_of h.pair)))

counts_differences : (n : ℕ) (old new hs : Collection) (k : ℕ) → IsCollectionFrom n hs → 0 < count_at hs k
    → counts_at (differences old new hs) k ≡ difference_of (count_at old k) (count_at new k)
counts_differences n old new [] k hs_is held = absurd (omega arith)
counts_differences n old new (h ∷ hs) k hs_is held =
    ⊎_elim
    (λ here. ⊎_elim
    (λ same.
    ap (λ es. counts_at es k) (differences_same old new h hs same)
    ∙ counts_below (rank_of h.pair + 1) (differences old new hs) k (differences_is (rank_of h.pair + 1) old new hs hs_is.2)
    (omega (arith, here))
    ∙ sym (no_difference (count_at old (rank_of h.pair)) (count_at new (rank_of h.pair)) same)
    ∙ ap (λ i. difference_of (count_at old i) (count_at new i)) here)
    (λ ne.
    ap (λ es. counts_at es k) (cond-false _ _ _ (ne_eqb _ _ ne))
    ∙ counts_head (record { pair = h.pair; before = count_at old (rank_of h.pair); after = count_at new (rank_of h.pair) })
    (differences old new hs) k here
    ∙ sym (some_difference (count_at old (rank_of h.pair)) (count_at new (rank_of h.pair)) ne)
    ∙ ap (λ i. difference_of (count_at old i) (count_at new i)) here)
    (cases_eq (count_at old (rank_of h.pair)) (count_at new (rank_of h.pair))))
    (λ other.
    counts_differences_tail old new h hs k other
    ∙ counts_differences (rank_of h.pair + 1) old new hs k hs_is.2 (omega (arith, held, count_tail h hs k other)))
    (cases_eq (rank_of h.pair) k)

counts_differences_none : (old new hs : Collection) (k : ℕ) → (n : ℕ) → IsCollectionFrom n hs → count_at hs k ≡ 0
    → counts_at (differences old new hs) k ≡ None
counts_differences_none old new [] k n hs_is none = refl
counts_differences_none old new (h ∷ hs) k n hs_is none =
    let other : rank_of h.pair ≡ k → ⊥ = λ here. omega (arith, none, count_head h hs k here, hs_is.1) in
    counts_differences_tail old new h hs k other
    ∙ counts_differences_none old new hs k (rank_of h.pair + 1) hs_is.2 (sym (count_tail h hs k other) ∙ none)

-- ---- the pairs of two collections

joined_keeps : (hs ks : Collection) → IsCollection hs → IsCollection (joined hs ks)
joined_keeps hs [] hs_is = hs_is
joined_keeps hs (k ∷ ks) hs_is = joined_keeps (set_count k.pair k.count hs) ks (set_keeps k.pair k.count hs hs_is)

joined_keeps_from : (n : ℕ) (hs ks : Collection) → IsCollectionFrom n hs → IsCollectionFrom n ks → IsCollectionFrom n (joined hs ks)
joined_keeps_from n hs [] hs_is ks_is = hs_is
joined_keeps_from n hs (k ∷ ks) hs_is ks_is =
    joined_keeps_from n (set_count k.pair k.count hs) ks (set_keeps_from n k.pair k.count hs ks_is.0 hs_is)
    (from_lower n (rank_of k.pair + 1) ks (omega (arith, ks_is.0)) ks_is.2)

-- a pair that is in neither of two joined collections is in none
joined_none : (n : ℕ) (hs ks : Collection) (i : ℕ) → IsCollection hs → IsCollectionFrom n ks → count_at (joined hs ks) i ≡ 0
    → (count_at hs i ≡ 0) × (count_at ks i ≡ 0)
joined_none n hs [] i hs_is ks_is none = (none, refl)
joined_none n hs (k ∷ ks) i hs_is ks_is none =
    let rest = joined_none (rank_of k.pair + 1) (set_count k.pair k.count hs) ks i (set_keeps k.pair k.count hs hs_is) ks_is.2 none in
    ⊎_elim
    (λ here.
    let own = ap (λ j. count_at (set_count k.pair k.count hs) j) (sym here) ∙ count_set_same 0 k.pair k.count hs hs_is in
    absurd (omega (arith, rest.0, ks_is.1, own)))
    (λ other. (sym (count_set_other k.pair k.count hs i other) ∙ rest.0, count_tail k ks i other ∙ rest.1))
    (cases_eq (rank_of k.pair) i)

-- ---- the change between two collections

-- it is a change
pub between_is_change : (old new : Collection) → IsCollection old → IsChangeList (change_between old new)
between_is_change old new old_is = differences_is 0 old new (joined old new) (joined_keeps old new old_is)

pub between_is_change_from : (n : ℕ) (old new : Collection) → IsCollectionFrom n old → IsCollectionFrom n new
    → IsChangeListFrom n (change_between old new)
between_is_change_from n old new old_is new_is =
    differences_is n old new (joined old new) (joined_keeps_from n old new old_is new_is)

pub counts_between_at : (old new : Collection) (k : ℕ) → IsCollection old → IsCollection new
    → counts_at (change_between old new) k ≡ difference_of (count_at old k) (count_at new k)
counts_between_at old new k old_is new_is =
    ⊎_elim
    (λ none.
    let neither = joined_none 0 old new k old_is new_is none in
    counts_differences_none old new (joined old new) k 0 (joined_keeps old new old_is) none
    ∙ sym (no_difference (count_at old k) (count_at new k) (neither.0 ∙ sym neither.1)))
    (λ some. counts_differences 0 old new (joined old new) k (joined_keeps old new old_is) (omega (arith, some)))
    (cases_eq (count_at (joined old new) k) 0)

-- it has exactly the pairs whose counts differ, with both counts
pub counts_between : (old new : Collection) (p : Pair) → IsCollection old → IsCollection new
    → counts_at (change_between old new) (rank_of p) ≡ difference_of (count_in old p) (count_in new p)
counts_between old new p old_is new_is = counts_between_at old new (rank_of p) old_is new_is

-- and no other change has
pub only_change : (old new : Collection) (es : List Entry) → IsCollection old → IsCollection new → IsChangeList es
    → ((p : Pair) → counts_at es (rank_of p) ≡ difference_of (count_in old p) (count_in new p)) → es ≡ change_between old new
only_change old new es old_is new_is es_is has =
    same_change es (change_between old new) es_is (between_is_change old new old_is)
    (λ p. has p ∙ sym (counts_between old new p old_is new_is))

after_difference : (m n : ℕ) → count_after (difference_of m n) m ≡ n
after_difference m n =
    ⊎_elim
    (λ same. ap (λ o. count_after o m) (no_difference m n same) ∙ same)
    (λ ne. ap (λ o. count_after o m) (some_difference m n ne))
    (cases_eq m n)

-- it makes the one collection of the other
pub changed_between : (old new : Collection) → IsCollection old → IsCollection new → changed old (change_between old new) ≡ new
changed_between old new old_is new_is =
    same_collection (changed old (change_between old new)) new
    (changed_keeps old (change_between old new) old_is (between_is_change old new old_is)) new_is
    (λ p.
    count_changed 0 old (change_between old new) (rank_of p) old_is (between_is_change old new old_is)
    ∙ ap (λ o. count_after o (count_in old p)) (counts_between old new p old_is new_is)
    ∙ after_difference (count_in old p) (count_in new p))
