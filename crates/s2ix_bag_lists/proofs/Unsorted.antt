-- Where entries stop rising.
use Rattle.std.proofs.Common.{◌≡◌, ◌==◌, ℕ, ◌+◌, ◌<◌, ◌≤◌, not, List, [], ◌∷◌, Option, Some, None, length, drop, get_or, refl, sym, ap, ap₂, ◌∙◌, ◌↔◌, ⊎_elim, arith, lt-ltb, le-ltb, eq-eqb, ne_eqb}
use Rattle.std.proofs.lemmas.Bool.{cases_eq, cases_lt, cond-true, cond-false}
use Rattle.std.proofs.lemmas.List.{drop_more, drop_all}
use Rattle.std.specs.List.{position_or_len}
use Rattle.std.specs.Option.{option_map, option_or}
use Rattle.s2ix_bag_pairs.specs.Change.{IsChangeList, IsChangeListFrom}
use Rattle.s2ix_bag_lists.specs.Entries.{first_unsorted_from, first_unsorted, first_without_difference, change_fault}
use Rattle.s2ix_bag_pairs.specs.Pair.{rank_of}
use Rattle.s2ix_bag_pairs.specs.declared.pair.Pair.{Pair}
use Rattle.s2ix_bag_pairs.specs.declared.pair.Entry.{Entry}
use Rattle.s2ix_bag_lists.specs.declared.errors.ChangeError.TheVariants.{Unsorted, NoDifference}

-- the first rank after a pair, if there is one
abbrev pub rank_past : Option Pair → ℕ
rank_past None = 0
rank_past (Some p) = rank_of p + 1

-- the first k entries rise, and what is left is to rise from the last of them on
abbrev pub RiseSoFar : List Entry → ℕ → Option Pair → Type 0
RiseSoFar es k last = first_unsorted_from 0 0 es ≡ first_unsorted_from k (rank_past last) (drop k es)

pub split_at : (es : List Entry) (k : ℕ) (e : Entry) → k < length es → e ≡ get_or es k e → drop k es ≡ e ∷ drop (k + 1) es
split_at es k e within is = drop_more es k e within ∙ ap (λ x. x ∷ drop (k + 1) es) (sym is)

pub rise_more : (es : List Entry) (k : ℕ) (last : Option Pair) (e : Entry) → k < length es → e ≡ get_or es k e → RiseSoFar es k last
    → rank_past last ≤ rank_of e.pair → RiseSoFar es (k + 1) (Some e.pair)
rise_more es k last e within is was above =
    was ∙ ap (λ xs. first_unsorted_from k (rank_past last) xs) (split_at es k e within is)
    ∙ cond-false _ _ _ (le-ltb (rank_of e.pair) (rank_past last) above)

pub stops_here : (es : List Entry) (k : ℕ) (last : Option Pair) (e : Entry) → k < length es → e ≡ get_or es k e → RiseSoFar es k last
    → rank_of e.pair < rank_past last → first_unsorted es ≡ Some k
stops_here es k last e within is was below =
    was ∙ ap (λ xs. first_unsorted_from k (rank_past last) xs) (split_at es k e within is)
    ∙ cond-true _ _ _ (lt-ltb (rank_of e.pair) (rank_past last) below)

pub all_rise : (es : List Entry) (k : ℕ) (last : Option Pair) → length es ≤ k → RiseSoFar es k last → first_unsorted es ≡ None
all_rise es k last past was = was ∙ ap (λ xs. first_unsorted_from k (rank_past last) xs) (drop_all k es past)

pub above_from_last : (last : Option Pair) (p : Pair) (n : ℕ) → last ≡ Some p → rank_of p < n → rank_past last ≤ n
above_from_last last p n is lt = omega (arith, ap rank_past is)

pub below_from_last : (last : Option Pair) (p : Pair) (n : ℕ) → last ≡ Some p → (rank_of p < n → ⊥) → n < rank_past last
below_from_last last p n is not_lt =
    ⊎_elim (λ lt. absurd (not_lt lt)) (λ le. omega (arith, ap rank_past is)) (cases_lt (rank_of p) n)

-- ---- a list without faults

not_found : (es : List Entry) → first_without_difference es ≡ None → length es ≤ position_or_len (λ e. e.before == e.after) es
not_found es none =
    ⊎_elim
    (λ lt. let clash : Some (position_or_len (λ e. e.before == e.after) es) ≡ None = sym (cond-true _ _ _ (lt-ltb _ _ lt)) ∙ none in cc)
    (λ le. le)
    (cases_lt (position_or_len (λ e. e.before == e.after) es) (length es))

change_from : (k n : ℕ) (es : List Entry) → first_unsorted_from k n es ≡ None → length es ≤ position_or_len (λ e. e.before == e.after) es
    → IsChangeListFrom n es
change_from k n [] rise differ = tt
change_from k n (e ∷ es) rise differ =
    ⊎_elim
    (λ below. let clash : Some k ≡ None = sym (cond-true _ _ _ (lt-ltb (rank_of e.pair) n below)) ∙ rise in cc)
    (λ above.
    let rest = sym (cond-false _ _ _ (le-ltb (rank_of e.pair) n above)) ∙ rise in
    ⊎_elim
    (λ same.
    let found = cond-false (not (e.before == e.after)) (1 + position_or_len (λ f. f.before == f.after) es) 0 (ap not (eq-eqb _ _ same)) in
    absurd (omega (arith, differ, found)))
    (λ ne.
    let passed = cond-true (not (e.before == e.after)) (1 + position_or_len (λ f. f.before == f.after) es) 0 (ap not (ne_eqb _ _ ne)) in
    (above, ne, change_from (k + 1) (rank_of e.pair + 1) es rest (omega (arith, differ, passed))))
    (cases_eq e.before e.after))
    (cases_lt (rank_of e.pair) n)

without_fault : (es : List Entry) (unsorted same : Option ℕ) → first_unsorted es ≡ unsorted → first_without_difference es ≡ same
    → option_or (option_map Unsorted unsorted) (option_map NoDifference same) ≡ None → IsChangeList es
without_fault es (Some place) same rise differ none = cc
without_fault es None (Some place) rise differ none = cc
without_fault es None None rise differ none = change_from 0 0 es rise (not_found es differ)

-- a list of entries without a fault is a change
pub change_without_fault : (es : List Entry) → change_fault es ≡ None → IsChangeList es
change_without_fault es none = without_fault es (first_unsorted es) (first_without_difference es) refl refl none

-- ---- and a change has no fault

rises_without_fault : (k n : ℕ) (es : List Entry) → IsChangeListFrom n es → first_unsorted_from k n es ≡ None
rises_without_fault k n [] is = refl
rises_without_fault k n (e ∷ es) is =
    cond-false _ _ _ (le-ltb (rank_of e.pair) n is.0) ∙ rises_without_fault (k + 1) (rank_of e.pair + 1) es is.2

all_differ : (n : ℕ) (es : List Entry) → IsChangeListFrom n es → length es ≤ position_or_len (λ e. e.before == e.after) es
all_differ n [] is = omega arith
all_differ n (e ∷ es) is =
    let passed = cond-true (not (e.before == e.after)) (1 + position_or_len (λ f. f.before == f.after) es) 0 (ap not (ne_eqb _ _ is.1)) in
    omega (arith, all_differ (rank_of e.pair + 1) es is.2, passed)

fault_of_change : (es : List Entry) → IsChangeList es → change_fault es ≡ None
fault_of_change es is =
    ap₂ (λ (unsorted same : Option ℕ). option_or (option_map Unsorted unsorted) (option_map NoDifference same))
    (rises_without_fault 0 0 es is)
    (cond-false _ _ _ (le-ltb _ _ (all_differ 0 es is)))

pub changes_have_no_fault : (es : List Entry) → IsChangeList es ↔ (change_fault es ≡ None)
changes_have_no_fault es = (fault_of_change es, change_without_fault es)
