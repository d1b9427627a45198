-- How many pairs a changed collection holds, and how many of each.
use Rattle.std.proofs.Common.{◌≡◌, ℕ, zero, suc, ◌+◌, ◌<◌, ◌≤◌, ◌==◌, cond, List, [], ◌∷◌, length, All, count_by, refl, sym, ap, ◌∙◌, subst, ⊎_elim, arith, ne_eqb, suc-ne-zero}
use Rattle.std.proofs.lemmas.Bool.{cases_order, cond-false}
use Rattle.std.proofs.lemmas.List.Elements.{All-cons, All-head, All-tail}
use Rattle.std.proofs.lemmas.List.Recursion.{is_count_by}
use Rattle.s2ix_bag_lists.specs.Apply.{AreBefore}
use Rattle.s2ix_bag_pairs.specs.Collection.{Collection, IsCollection, IsCollectionFrom, count_at, held_with, set_count}
use Rattle.s2ix_bag_pairs.specs.Change.{IsChangeList, IsChangeListFrom, changed}
use Rattle.s2ix_bag_pairs.specs.Pair.{rank_of}
use Rattle.s2ix_bag_pairs.specs.declared.pair.Pair.{Pair}
use Rattle.s2ix_bag_pairs.specs.declared.pair.Held.{Held}
use Rattle.s2ix_bag_pairs.specs.declared.pair.Entry.{Entry}
use Rattle.s2ix_bag_pairs.proofs.Counts.{count_head, count_tail, count_below, set_before, set_at, set_after}
use Rattle.s2ix_bag_pairs.proofs.Collections.{set_keeps}
use Rattle.s2ix_bag_lists.proofs.Applied.{before_rest}

-- 1 if a count is above 0, so that its pair is held
abbrev pub one_if_held : ℕ → ℕ
one_if_held zero = 0
one_if_held (suc n) = 1

length_held : (p : Pair) (n : ℕ) (hs : Collection) → length (held_with p n hs) ≡ length hs + one_if_held n
length_held p zero hs = omega arith
length_held p (suc n) hs = omega arith

one_if_positive : (n : ℕ) → 0 < n → one_if_held n ≡ 1
one_if_positive zero pos = absurd (omega arith)
one_if_positive (suc n) pos = refl

length_set : (m : ℕ) (p : Pair) (n : ℕ) (hs : Collection) → IsCollectionFrom m hs
    → length (set_count p n hs) + one_if_held (count_at hs (rank_of p)) ≡ length hs + one_if_held n
length_set m p n [] hs_is = omega (arith, length_held p n [])
length_set m p n (h ∷ hs) hs_is =
    ⊎_elim
    (λ e.
    let counted = ap one_if_held (count_head h hs (rank_of p) (sym e)) ∙ one_if_positive h.count hs_is.1 in
    omega (arith, ap length (set_at p n h hs e), length_held p n hs, counted))
    (λ order. ⊎_elim
    (λ lt.
    let none = ap one_if_held (count_below (rank_of h.pair) (h ∷ hs) (rank_of p) (omega arith, hs_is.1, hs_is.2) lt) in
    omega (arith, ap length (set_before p n h hs lt), length_held p n (h ∷ hs), none))
    (λ lt.
    let counted = ap one_if_held (count_tail h hs (rank_of p) (λ e. omega (arith, e, lt))) in
    omega (arith, ap length (set_after p n h hs lt), length_set (rank_of h.pair + 1) p n hs hs_is.2, counted))
    order)
    (cases_order (rank_of p) (rank_of h.pair))

-- how many entries have a pair that is not held before
abbrev pub gains : List Entry → ℕ
gains [] = 0
gains (e ∷ es) = cond (e.before == 0) (1 + gains es) (gains es)

-- how many entries have a pair that is not held after
abbrev pub losses : List Entry → ℕ
losses [] = 0
losses (e ∷ es) = cond (e.after == 0) (1 + losses es) (losses es)

pub gains-count_by : (es : List Entry) → gains es ≡ count_by (λ e. e.before == 0) es
gains-count_by es = is_count_by gains (λ e. e.before == 0) refl (λ _ _. refl) es

pub losses-count_by : (es : List Entry) → losses es ≡ count_by (λ e. e.after == 0) es
losses-count_by es = is_count_by losses (λ e. e.after == 0) refl (λ _ _. refl) es

one_more : (n m : ℕ) → cond (n == 0) (1 + m) m + one_if_held n ≡ m + 1
one_more zero m = omega arith
one_more (suc n) m = omega (arith, cond-false (suc n == 0) (1 + m) m (ne_eqb (suc n) 0 (suc-ne-zero n)))

-- a change adds the pairs that are not held before, and takes off those that are not held after
pub length-changed_from : (n : ℕ) (hs : Collection) (es : List Entry) → IsCollection hs → IsChangeListFrom n es → AreBefore hs es
    → length (changed hs es) + losses es ≡ length hs + gains es
length-changed_from n hs [] hs_is es_is before = refl
length-changed_from n hs (e ∷ es) hs_is es_is before =
    let rest =
    length-changed_from (rank_of e.pair + 1) (set_count e.pair e.after hs) es (set_keeps e.pair e.after hs hs_is) es_is.2
    (before_rest n hs e es es_is before) in
    let first = length_set 0 e.pair e.after hs hs_is in
    let same_count = ap one_if_held before.0 in
    omega (arith, rest, first, same_count, one_more e.before (gains es), one_more e.after (losses es))

pub length-changed : (hs : Collection) (es : List Entry) → IsCollection hs → IsChangeList es → AreBefore hs es
    → length (changed hs es) + losses es ≡ length hs + gains es
length-changed hs es hs_is es_is before = length-changed_from 0 hs es hs_is es_is before

-- ---- counts within a limit

AreSmall : ℕ → Collection → Type 0
AreSmall c hs = All (λ (h : Held). h.count ≤ c) hs

small_held : (c : ℕ) (p : Pair) (n : ℕ) (hs : Collection) → n ≤ c → AreSmall c hs → AreSmall c (held_with p n hs)
unfolding AreSmall
small_held c p zero hs le small = small
small_held c p (suc n) hs le small = All-cons (λ (h : Held). h.count ≤ c) (record { pair = p; count = suc n }) hs le small

small_set : (c : ℕ) (p : Pair) (n : ℕ) (hs : Collection) → n ≤ c → AreSmall c hs → AreSmall c (set_count p n hs)
unfolding AreSmall
small_set c p n [] le small = small_held c p n [] le small
small_set c p n (h ∷ hs) le small =
    let own = All-head (λ (x : Held). x.count ≤ c) h hs small in
    let rest = All-tail (λ (x : Held). x.count ≤ c) h hs small in
    ⊎_elim
    (λ e. subst (AreSmall c) (sym (set_at p n h hs e)) (small_held c p n hs le rest))
    (λ order. ⊎_elim
    (λ lt. subst (AreSmall c) (sym (set_before p n h hs lt)) (small_held c p n (h ∷ hs) le small))
    (λ lt. subst (AreSmall c) (sym (set_after p n h hs lt))
    (All-cons (λ (x : Held). x.count ≤ c) h (set_count p n hs) own (small_set c p n hs le rest)))
    order)
    (cases_order (rank_of p) (rank_of h.pair))

-- each count after is within the limit
abbrev pub AreAfterWithin : ℕ → List Entry → Type 0
AreAfterWithin c [] = Unit {0}
AreAfterWithin c (e ∷ es) = (e.after ≤ c) × AreAfterWithin c es

pub small_changed : (c : ℕ) (hs : Collection) (es : List Entry) → AreAfterWithin c es → All (λ (h : Held). h.count ≤ c) hs
    → All (λ (h : Held). h.count ≤ c) (changed hs es)
unfolding AreSmall
small_changed c hs [] within small = small
small_changed c hs (e ∷ es) within small =
    small_changed c (set_count e.pair e.after hs) es within.1 (small_set c e.pair e.after hs within.0 small)
