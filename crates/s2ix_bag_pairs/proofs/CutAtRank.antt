-- A collection cut at a rank: the pairs before it, and those from it on.
use Rattle.std.proofs.Common.{◌≡◌, ℕ, zero, suc, ◌+◌, ◌-◌, ◌<◌, ◌≤◌, List, [], ◌∷◌, ◌++◌, take, drop, get_or, length, refl, sym, ap, ◌∙◌, subst, ⊎_elim, arith, eq-eqb, ne_eqb, le_of_eq, slice_get, Some}
use Rattle.std.proofs.lemmas.Bool.{cases_eq, cond-true, cond-false}
use Rattle.std.proofs.lemmas.List.{get_or_default}
use Rattle.std.specs.List.Sorted.{IsNonDecreasingBy}
use Rattle.s2ix_bag_pairs.specs.Collection.{Collection, IsCollection, IsCollectionFrom, AreBelow, count_at, held_with, past}
use Rattle.s2ix_bag_pairs.specs.Change.{IsChangeListFrom, changed}
use Rattle.s2ix_bag_pairs.specs.Pair.{rank_of}
use Rattle.s2ix_bag_pairs.specs.declared.pair.Pair.{Pair}
use Rattle.s2ix_bag_pairs.specs.declared.pair.Held.{Held}
use Rattle.s2ix_bag_pairs.specs.declared.pair.Entry.{Entry}
use Rattle.s2ix_bag_pairs.proofs.Counts.{count_tail, count_below, from_lower}
use Rattle.s2ix_bag_pairs.proofs.Collections.{rank_of_get}
use Rattle.s2ix_bag_pairs.proofs.Changes.{changed_at, changed_absent}

-- a part of a collection is a collection
pub collection_drop : (n m : ℕ) (hs : Collection) → IsCollectionFrom m hs → IsCollection (drop n hs)
collection_drop zero m hs hs_is = from_lower 0 m hs (omega arith) hs_is
collection_drop (suc n) m [] hs_is = tt
collection_drop (suc n) m (h ∷ hs) hs_is = collection_drop n (rank_of h.pair + 1) hs hs_is.2

pub collection_take : (n m : ℕ) (hs : Collection) → IsCollectionFrom m hs → IsCollectionFrom m (take n hs)
collection_take zero m hs hs_is = tt
collection_take (suc n) m [] hs_is = tt
collection_take (suc n) m (h ∷ hs) hs_is = (hs_is.0, hs_is.1, collection_take n (rank_of h.pair + 1) hs hs_is.2)

-- ranks rise with places
pub ranks_rise : (m : ℕ) (hs : Collection) (i j : ℕ) (d : Held) → IsCollectionFrom m hs → i < j → j < length hs
    → rank_of (get_or hs i d).pair < rank_of (get_or hs j d).pair
ranks_rise m [] i j d hs_is lt short = absurd (omega arith)
ranks_rise m (h ∷ hs) i zero d hs_is lt short = absurd (omega arith)
ranks_rise m (h ∷ hs) zero (suc j) d hs_is lt short = omega (arith, rank_of_get (rank_of h.pair + 1) hs j d hs_is.2 (omega arith))
ranks_rise m (h ∷ hs) (suc i) (suc j) d hs_is lt short = ranks_rise (rank_of h.pair + 1) hs i j d hs_is.2 (omega arith) (omega arith)

-- so they fall nowhere
pub ranks_non_decreasing : (hs : Collection) → IsCollection hs → IsNonDecreasingBy (λ (h : Held). rank_of h.pair) hs
ranks_non_decreasing hs hs_is =
    λ i j d le within.
    ⊎_elim
    (λ same. le_of_eq (ap (λ k. rank_of (get_or hs k d).pair) same))
    (λ ne. let lt : i < j = omega (arith, ne, le) in omega (arith, ranks_rise 0 hs i j d hs_is lt within))
    (cases_eq i j)

-- the cut at a place
pub below_from_places : (rank n : ℕ) (hs : Collection) → ((k : ℕ) (d : Held) → k < n → k < length hs → rank_of (get_or hs k d).pair < rank)
    → AreBelow rank (take n hs)
below_from_places rank zero hs each = tt
below_from_places rank (suc n) [] each = tt
below_from_places rank (suc n) (h ∷ hs) each = (
  each 0 h (omega arith) (omega arith),
  below_from_places rank n hs (λ k d lt within. each (suc k) d (omega arith) (omega arith)),
)

pub from_place : (rank n m : ℕ) (hs : Collection) → IsCollectionFrom m hs
    → ((d : Held) → n < length hs → rank ≤ rank_of (get_or hs n d).pair) → IsCollectionFrom rank (drop n hs)
from_place rank zero m [] hs_is first = tt
from_place rank zero m (h ∷ hs) hs_is first = (first h (omega arith), hs_is.1, hs_is.2)
from_place rank (suc n) m [] hs_is first = tt
from_place rank (suc n) m (h ∷ hs) hs_is first =
    from_place rank n (rank_of h.pair + 1) hs hs_is.2 (λ d within. first d (omega arith))

-- the pairs before the cut have no say on later counts
pub count_past_below : (rank n k : ℕ) (hs : Collection) → AreBelow rank (take n hs) → rank ≤ k → count_at hs k ≡ count_at (drop n hs) k
count_past_below rank zero k hs below le = refl
count_past_below rank (suc n) k [] below le = refl
count_past_below rank (suc n) k (h ∷ hs) below le =
    count_tail h hs k (λ e. omega (arith, e, below.0, le)) ∙ count_past_below rank n k hs below.1 le

-- the pair of an entry is not held if the first pair is past it
pub count_first_none : (k : ℕ) (hs : Collection) → IsCollectionFrom k hs → ((h : Held) → slice_get hs 0 ≡ Some h → rank_of h.pair ≡ k → ⊥)
    → count_at hs k ≡ 0
count_first_none k [] hs_is other = refl
count_first_none k (h ∷ hs) hs_is other =
    let ne : rank_of h.pair ≡ k → ⊥ = other h refl in
    count_below (k + 1) (h ∷ hs) k (omega (arith, ne, hs_is.0), hs_is.1, hs_is.2) (omega arith)

-- ---- past one pair

pub past_here : (h : Held) (hs : Collection) (rank : ℕ) → rank_of h.pair ≡ rank → past (h ∷ hs) rank ≡ hs
past_here h hs rank same = cond-true _ _ _ (eq-eqb _ _ same)

pub past_other : (h : Held) (hs : Collection) (rank : ℕ) → (rank_of h.pair ≡ rank → ⊥) → past (h ∷ hs) rank ≡ h ∷ hs
past_other h hs rank ne = cond-false _ _ _ (ne_eqb _ _ ne)

pub past_rises : (rank : ℕ) (hs : Collection) → IsCollectionFrom rank hs → IsCollectionFrom (rank + 1) (past hs rank)
past_rises rank [] hs_is = tt
past_rises rank (h ∷ hs) hs_is =
    let Rises : Collection → Type 0 = λ x. IsCollectionFrom (rank + 1) x in
    ⊎_elim
    (λ same. subst Rises (sym (past_here h hs rank same)) (from_lower (rank + 1) (rank_of h.pair + 1) hs (omega (arith, same)) hs_is.2))
    (λ ne. subst Rises (sym (past_other h hs rank ne)) (omega (arith, ne, hs_is.0), hs_is.1, hs_is.2))
    (cases_eq (rank_of h.pair) rank)

pub count_past : (rank k : ℕ) (hs : Collection) → (rank ≡ k → ⊥) → count_at (past hs rank) k ≡ count_at hs k
count_past rank k [] ne = refl
count_past rank k (h ∷ hs) ne =
    ⊎_elim
    (λ same. ap (λ x. count_at x k) (past_here h hs rank same) ∙ sym (count_tail h hs k (λ e. ne (sym same ∙ e))))
    (λ other. ap (λ x. count_at x k) (past_other h hs rank other))
    (cases_eq (rank_of h.pair) rank)

-- the first entry of a change, on a collection from its pair on
pub changed_first : (hs : Collection) (e : Entry) (es : List Entry) → IsCollectionFrom (rank_of e.pair) hs
    → IsChangeListFrom (rank_of e.pair + 1) es → changed hs (e ∷ es) ≡ held_with e.pair e.after (changed (past hs (rank_of e.pair)) es)
changed_first [] e es hs_is es_is = changed_absent [] e es tt es_is
changed_first (h ∷ hs) e es hs_is es_is =
    ⊎_elim
    (λ same.
    changed_at h hs e es (sym same) es_is ∙ ap (λ x. held_with e.pair e.after (changed x es)) (sym (past_here h hs (rank_of e.pair) same)))
    (λ ne.
    changed_absent (h ∷ hs) e es (omega (arith, ne, hs_is.0), hs_is.1, hs_is.2) es_is
    ∙ ap (λ x. held_with e.pair e.after (changed x es)) (sym (past_other h hs (rank_of e.pair) ne)))
    (cases_eq (rank_of h.pair) (rank_of e.pair))

-- a held pair goes in front of a list
pub held_with_append : (p : Pair) (n : ℕ) (hs : Collection) → held_with p n hs ≡ held_with p n [] ++ hs
held_with_append p zero hs = refl
held_with_append p (suc n) hs = refl

-- a cut that was searched within a front of the collection
pub from_front : (rank e n m : ℕ) (hs : Collection) → IsCollectionFrom m hs → n ≤ e → IsCollectionFrom rank (drop n (take e hs))
    → ((d : Held) → e < length hs → rank ≤ rank_of (get_or hs e d).pair) → IsCollectionFrom rank (drop n hs)
from_front rank zero zero m hs hs_is le front last = from_place rank 0 m hs hs_is last
from_front rank zero (suc n) m hs hs_is le front last = absurd (omega arith)
from_front rank (suc e) zero m [] hs_is le front last = tt
from_front rank (suc e) zero m (h ∷ hs) hs_is le front last = (front.0, hs_is.1, hs_is.2)
from_front rank (suc e) (suc n) m [] hs_is le front last = tt
from_front rank (suc e) (suc n) m (h ∷ hs) hs_is le front last =
    from_front rank e n (rank_of h.pair + 1) hs hs_is.2 (omega arith) front (λ d within. last d (omega arith))

-- what is not before the pair at one place is not before it at the next
pub next_from_read : (rank k : ℕ) (hs : Collection) (read : Held) → IsCollection hs → 1 ≤ k → rank ≤ rank_of (get_or hs (k - 1) read).pair
    → (d : Held) → k < length hs → rank ≤ rank_of (get_or hs k d).pair
next_from_read rank k hs read hs_is pos le d within =
    let same : get_or hs k d ≡ get_or hs k read = get_or_default hs k d read within in
    let same_rank : rank_of (get_or hs k d).pair ≡ rank_of (get_or hs k read).pair = ap (λ (h : Held). rank_of h.pair) same in
    let lt : k - 1 < k = omega arith in
    omega (arith, same_rank, ranks_rise 0 hs (k - 1) k read hs_is lt within)
