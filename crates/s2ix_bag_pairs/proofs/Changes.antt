-- The entries of a change, and what a change makes of a collection.
use Rattle.std.proofs.Common.{◌≡◌, ◌≢◌, ℕ, zero, suc, ◌+◌, ◌<◌, ◌≤◌, List, [], ◌∷◌, ◌++◌, Option, Some, None, refl, sym, ap, ap₂, ◌∙◌, ⊎_elim, arith, eq-eqb, ne_eqb}
use Rattle.std.proofs.lemmas.Bool.{cases_eq, cases_order, cond-true, cond-false}
use Rattle.std.proofs.lemmas.Option.{some_pair_parts}
use Rattle.s2ix_bag_pairs.specs.Collection.{Collection, IsCollection, IsCollectionFrom, AreBelow, count_at, count_in, held_with, set_count}
use Rattle.s2ix_bag_pairs.specs.Change.{IsChangeList, IsChangeListFrom, counts_at, count_after, changed}
use Rattle.s2ix_bag_pairs.specs.Pair.{rank_of}
use Rattle.s2ix_bag_pairs.specs.declared.pair.Pair.{Pair}
use Rattle.s2ix_bag_pairs.specs.declared.pair.Held.{Held}
use Rattle.s2ix_bag_pairs.specs.declared.pair.Entry.{Entry}
use Rattle.s2ix_bag_pairs.proofs.Pairs.{same_pair}
use Rattle.s2ix_bag_pairs.proofs.Counts.{set_before, set_at, set_after}
use Rattle.s2ix_bag_pairs.proofs.Collections.{count_set_other, count_set_same, set_keeps_from, set_keeps}

-- ---- the entries of a change

pub counts_head : (e : Entry) (es : List Entry) (k : ℕ) → rank_of e.pair ≡ k → counts_at (e ∷ es) k ≡ Some (e.before, e.after)
counts_head e es k same = cond-true _ _ _ (eq-eqb _ _ same)

pub counts_tail : (e : Entry) (es : List Entry) (k : ℕ) → (rank_of e.pair ≡ k → ⊥) → counts_at (e ∷ es) k ≡ counts_at es k
counts_tail e es k ne = cond-false _ _ _ (ne_eqb _ _ ne)

pub change_lower : (m n : ℕ) (es : List Entry) → m ≤ n → IsChangeListFrom n es → IsChangeListFrom m es
change_lower m n [] le c = tt
change_lower m n (e ∷ es) le c = (omega arith, c.1, c.2)

-- a pair below the first has no entry
pub counts_below : (n : ℕ) (es : List Entry) (k : ℕ) → IsChangeListFrom n es → k < n → counts_at es k ≡ None
counts_below n [] k c lt = refl
counts_below n (e ∷ es) k c lt =
    counts_tail e es k (λ eq. omega (arith, eq, lt, c.0)) ∙ counts_below (rank_of e.pair + 1) es k c.2 (omega arith)

-- an entry's two counts differ
pub counts_differ : (n : ℕ) (es : List Entry) (k before after : ℕ) → IsChangeListFrom n es → counts_at es k ≡ Some (before, after)
    → before ≢ after
counts_differ n [] k before after c found = cc
counts_differ n (e ∷ es) k before after c found =
    ⊎_elim
    (λ same.
    let own : Some (e.before, e.after) ≡ Some (before, after) = sym (counts_head e es k same) ∙ found in
    let parts = some_pair_parts e.before before e.after after own in
    λ eq. c.1 (parts.0 ∙ eq ∙ sym parts.1))
    (λ ne. counts_differ (rank_of e.pair + 1) es k before after c.2 (sym (counts_tail e es k ne) ∙ found))
    (cases_eq (rank_of e.pair) k)

-- ---- two changes with the same counts are one

SameEntries : ℕ → List Entry → List Entry → Type 0
SameEntries n es fs = (p : Pair) → n ≤ rank_of p → counts_at es (rank_of p) ≡ counts_at fs (rank_of p)

first_has_entry : (n : ℕ) (e f : Entry) (es fs : List Entry) → IsChangeListFrom n (f ∷ fs)
    → counts_at (e ∷ es) (rank_of e.pair) ≡ counts_at (f ∷ fs) (rank_of e.pair) → rank_of f.pair ≤ rank_of e.pair
first_has_entry n e f es fs fs_is same =
    ⊎_elim (λ eq. omega arith)
    (λ order. ⊎_elim
    (λ lt.
    let own = counts_head e es (rank_of e.pair) refl in
    let none = counts_below (rank_of f.pair) (f ∷ fs) (rank_of e.pair) (omega arith, fs_is.1, fs_is.2) lt in
    let clash : ◌≡◌ {A = Option (ℕ × ℕ)} (Some (e.before, e.after)) None = sym own ∙ same ∙ none in
    cc)
    (λ lt. omega arith) order)
    (cases_order (rank_of e.pair) (rank_of f.pair))

entries_tails_same : (n : ℕ) (e f : Entry) (es fs : List Entry) → n ≤ rank_of e.pair → rank_of e.pair ≡ rank_of f.pair
    → SameEntries n (e ∷ es) (f ∷ fs) → SameEntries (rank_of e.pair + 1) es fs
unfolding SameEntries
entries_tails_same n e f es fs le eq same =
    λ p above.
    let e_ne : rank_of e.pair ≡ rank_of p → ⊥ = λ at_e. omega (arith, at_e, above) in
    let f_ne : rank_of f.pair ≡ rank_of p → ⊥ = λ at_f. omega (arith, at_f, above) in
    let le_p : n ≤ rank_of p = omega (arith, above) in
    sym (counts_tail e es (rank_of p) e_ne) ∙ same p le_p ∙ counts_tail f fs (rank_of p) f_ne

pub same_entry : (e f : Entry) → rank_of e.pair ≡ rank_of f.pair → e.before ≡ f.before → e.after ≡ f.after → e ≡ f
same_entry e f ranks befores afters =
    let pairs = same_pair e.pair f.pair ranks in
    let first : e ≡ record { pair = f.pair; before = e.before; after = e.after } =
    ap (λ (p : Pair). let made : Entry = record { pair = p; before = e.before; after = e.after } in made) pairs in
    let second : record { pair = f.pair; before = e.before; after = e.after } ≡ f =
    ap₂ (λ (b a : ℕ). let made : Entry = record { pair = f.pair; before = b; after = a } in made) befores afters in
    first ∙ second

same_change_from : (n : ℕ) (es fs : List Entry) → IsChangeListFrom n es → IsChangeListFrom n fs → SameEntries n es fs → es ≡ fs
unfolding SameEntries
same_change_from n [] [] es_is fs_is same = refl
same_change_from n [] (f ∷ fs) es_is fs_is same =
    let clash : ◌≡◌ {A = Option (ℕ × ℕ)} None (Some (f.before, f.after)) = same f.pair fs_is.0 ∙ counts_head f fs (rank_of f.pair) refl in
    cc
same_change_from n (e ∷ es) [] es_is fs_is same =
    let clash : ◌≡◌ {A = Option (ℕ × ℕ)} (Some (e.before, e.after)) None =
    sym (counts_head e es (rank_of e.pair) refl) ∙ same e.pair es_is.0 in
    cc
same_change_from n (e ∷ es) (f ∷ fs) es_is fs_is same =
    let below = first_has_entry n e f es fs fs_is (same e.pair es_is.0) in
    let above = first_has_entry n f e fs es es_is (sym (same f.pair fs_is.0)) in
    let eq : rank_of e.pair ≡ rank_of f.pair = omega (arith, below, above) in
    let counts : ◌≡◌ {A = Option (ℕ × ℕ)} (Some (e.before, e.after)) (Some (f.before, f.after)) =
    sym (counts_head e es (rank_of e.pair) refl) ∙ same e.pair es_is.0 ∙ counts_head f fs (rank_of e.pair) (sym eq) in
    let parts = some_pair_parts e.before f.before e.after f.after counts in
    let fs_from : IsChangeListFrom (rank_of e.pair + 1) fs =
    change_lower (rank_of e.pair + 1) (rank_of f.pair + 1) fs (omega (arith, eq)) fs_is.2 in
    ap₂ (λ (x : Entry) (xs : List Entry). x ∷ xs) (same_entry e f eq parts.0 parts.1)
    (same_change_from (rank_of e.pair + 1) es fs es_is.2 fs_from (entries_tails_same n e f es fs es_is.0 eq same))

-- two changes with the same counts for every pair are equal
pub same_change : (es fs : List Entry) → IsChangeList es → IsChangeList fs
    → ((p : Pair) → counts_at es (rank_of p) ≡ counts_at fs (rank_of p)) → es ≡ fs
unfolding SameEntries
same_change es fs es_is fs_is same = same_change_from 0 es fs es_is fs_is (λ p le. same p)

-- ---- what a change makes of a collection

pub changed_keeps_from : (n : ℕ) (hs : Collection) (es : List Entry) → IsCollectionFrom n hs → IsChangeListFrom n es
    → IsCollectionFrom n (changed hs es)
changed_keeps_from n hs [] hs_is es_is = hs_is
changed_keeps_from n hs (e ∷ es) hs_is es_is =
    changed_keeps_from n (set_count e.pair e.after hs) es (set_keeps_from n e.pair e.after hs es_is.0 hs_is)
    (change_lower n (rank_of e.pair + 1) es (omega (arith, es_is.0)) es_is.2)

-- a changed collection is a collection
pub changed_keeps : (hs : Collection) (es : List Entry) → IsCollection hs → IsChangeList es → IsCollection (changed hs es)
changed_keeps hs es hs_is es_is = changed_keeps_from 0 hs es hs_is es_is

pub count_changed : (n : ℕ) (hs : Collection) (es : List Entry) (k : ℕ) → IsCollection hs → IsChangeListFrom n es
    → count_at (changed hs es) k ≡ count_after (counts_at es k) (count_at hs k)
count_changed n hs [] k hs_is es_is = refl
count_changed n hs (e ∷ es) k hs_is es_is =
    let rest = count_changed (rank_of e.pair + 1) (set_count e.pair e.after hs) es k (set_keeps e.pair e.after hs hs_is) es_is.2 in
    ⊎_elim
    (λ same.
    rest
    ∙ ap (λ o. count_after o (count_at (set_count e.pair e.after hs) k))
    (counts_below (rank_of e.pair + 1) es k es_is.2 (omega (arith, same)))
    ∙ ap (λ i. count_at (set_count e.pair e.after hs) i) (sym same) ∙ count_set_same 0 e.pair e.after hs hs_is
    ∙ ap (λ o. count_after o (count_at hs k)) (sym (counts_head e es k same)))
    (λ ne.
    rest ∙ ap (λ c. count_after (counts_at es k) c) (count_set_other e.pair e.after hs k ne)
    ∙ ap (λ o. count_after o (count_at hs k)) (sym (counts_tail e es k ne)))
    (cases_eq (rank_of e.pair) k)

-- the counts of a changed collection: the entry's count after, else the count as it was
pub count_in-changed : (hs : Collection) (es : List Entry) (p : Pair) → IsCollection hs → IsChangeList es
    → count_in (changed hs es) p ≡ count_after (counts_at es (rank_of p)) (count_in hs p)
count_in-changed hs es p hs_is es_is = count_changed 0 hs es (rank_of p) hs_is es_is

-- ---- a change, entry by entry along the collection

-- pairs before the first entry stay as they are
pub changed_passes : (h : Held) (hs : Collection) (es : List Entry) → IsChangeListFrom (rank_of h.pair + 1) es
    → changed (h ∷ hs) es ≡ h ∷ changed hs es
changed_passes h hs [] es_is = refl
changed_passes h hs (e ∷ es) es_is =
    ap (λ x. changed x es) (set_after e.pair e.after h hs (omega (arith, es_is.0)))
    ∙ changed_passes h (set_count e.pair e.after hs) es
    (change_lower (rank_of h.pair + 1) (rank_of e.pair + 1) es (omega (arith, es_is.0)) es_is.2)

pub changed-append : (fs hs : Collection) (n : ℕ) (es : List Entry) → AreBelow n fs → IsChangeListFrom n es
    → changed (fs ++ hs) es ≡ fs ++ changed hs es
changed-append [] hs n es below es_is = refl
changed-append (f ∷ fs) hs n es below es_is =
    changed_passes f (fs ++ hs) es (change_lower (rank_of f.pair + 1) n es (omega (arith, below.0)) es_is)
    ∙ ap (λ x. f ∷ x) (changed-append fs hs n es below.1 es_is)

pub changed-held_with : (p : Pair) (n : ℕ) (hs : Collection) (es : List Entry) → IsChangeListFrom (rank_of p + 1) es
    → changed (held_with p n hs) es ≡ held_with p n (changed hs es)
changed-held_with p zero hs es es_is = refl
changed-held_with p (suc n) hs es es_is = changed_passes (record { pair = p; count = suc n }) hs es es_is

-- the first entry, at a pair that is held
pub changed_at : (h : Held) (hs : Collection) (e : Entry) (es : List Entry) → rank_of e.pair ≡ rank_of h.pair
    → IsChangeListFrom (rank_of e.pair + 1) es → changed (h ∷ hs) (e ∷ es) ≡ held_with e.pair e.after (changed hs es)
changed_at h hs e es same es_is =
    ap (λ x. changed x es) (set_at e.pair e.after h hs same) ∙ changed-held_with e.pair e.after hs es es_is

-- a pair before all that are held
pub set_in_front : (p : Pair) (n rank : ℕ) (hs : Collection) → rank_of p < rank → IsCollectionFrom rank hs
    → set_count p n hs ≡ held_with p n hs
set_in_front p n rank [] lt hs_is = refl
set_in_front p n rank (h ∷ hs) lt hs_is = set_before p n h hs (omega (arith, lt, hs_is.0))

-- the first entry, at a pair that is not held
pub changed_absent : (hs : Collection) (e : Entry) (es : List Entry) → IsCollectionFrom (rank_of e.pair + 1) hs
    → IsChangeListFrom (rank_of e.pair + 1) es → changed hs (e ∷ es) ≡ held_with e.pair e.after (changed hs es)
changed_absent hs e es hs_is es_is =
    ap (λ x. changed x es) (set_in_front e.pair e.after (rank_of e.pair + 1) hs (omega arith) hs_is) ∙ changed-held_with e.pair e.after hs es es_is
