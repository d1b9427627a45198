-- A change taken back.
use Rattle.std.proofs.Common.{◌≡◌, ℕ, ◌+◌, ◌-◌, ◌≤◌, List, [], ◌∷◌, Option, Some, None, refl, sym, ap, ◌∙◌, ⊎_elim, arith, lt-ltb, le-ltb}
use Rattle.std.specs.Prelude.{not, length, pos, ◌-ℤ◌}
use Rattle.std.specs.List.{position_or_len}
use Rattle.std.proofs.lemmas.Bool.{cases_eq, cases_lt, cond-true, cond-false}
use Rattle.std.proofs.lemmas.Int.{ints}
use Rattle.std.proofs.lemmas.Option.{some_pair_parts}
use Rattle.s2ix_bag_pairs.specs.Collection.{Collection, IsCollection, count_at, count_in}
use Rattle.s2ix_bag_pairs.specs.Change.{IsChangeList, IsChangeListFrom, counts_at, difference_of, count_after, change_between}
use Rattle.s2ix_bag_pairs.specs.TakenBack.{is_below_zero, first_below_zero, entry_back, change_back, taken_back, gain_of}
use Rattle.s2ix_bag_pairs.specs.Pair.{rank_of}
use Rattle.s2ix_bag_pairs.specs.declared.pair.Pair.{Pair}
use Rattle.s2ix_bag_pairs.specs.declared.pair.Entry.{Entry}
use Rattle.s2ix_bag_pairs.proofs.Changes.{counts_head, counts_tail, counts_differ, changed_keeps, count_changed}
use Rattle.s2ix_bag_pairs.proofs.Differences.{no_difference, some_difference, only_change}

-- ---- no entry below 0

-- at each entry the count less the difference is at least 0
abbrev pub AreAboveZero : Collection → List Entry → Type 0
AreAboveZero hs [] = Unit {0}
AreAboveZero hs (e ∷ es) = (e.after ≤ count_in hs e.pair + e.before) × AreAboveZero hs es

all_above : (hs : Collection) (es : List Entry) → length es ≤ position_or_len (is_below_zero hs) es → AreAboveZero hs es
all_above hs [] le = tt
all_above hs (e ∷ es) le =
    ⊎_elim
    (λ below.
    let found = cond-false (not (is_below_zero hs e)) (1 + position_or_len (is_below_zero hs) es) 0 (ap not (lt-ltb _ _ below)) in
    absurd (omega (arith, le, found)))
    (λ above.
    let passed = cond-true (not (is_below_zero hs e)) (1 + position_or_len (is_below_zero hs) es) 0 (ap not (le-ltb _ _ above)) in
    (above, all_above hs es (omega (arith, le, passed))))
    (cases_lt (count_in hs e.pair + e.before) e.after)

pub above_from_none : (hs : Collection) (es : List Entry) → first_below_zero hs es ≡ None → AreAboveZero hs es
above_from_none hs es none =
    ⊎_elim
    (λ lt. let clash : Some (position_or_len (is_below_zero hs) es) ≡ None = sym (cond-true _ _ _ (lt-ltb _ _ lt)) ∙ none in cc)
    (λ le. all_above hs es le)
    (cases_lt (position_or_len (is_below_zero hs) es) (length es))

-- ---- the change that takes a change back

pub back_keeps_from : (n : ℕ) (hs : Collection) (es : List Entry) → IsChangeListFrom n es → AreAboveZero hs es
    → IsChangeListFrom n (change_back hs es)
back_keeps_from n hs [] es_is above = tt
back_keeps_from n hs (e ∷ es) es_is above =
    (es_is.0, λ same. es_is.1 (omega (arith, same, above.0)), back_keeps_from (rank_of e.pair + 1) hs es es_is.2 above.1)

-- it is a change
pub back_keeps : (hs : Collection) (es : List Entry) → IsChangeList es → AreAboveZero hs es → IsChangeList (change_back hs es)
back_keeps hs es es_is above = back_keeps_from 0 hs es es_is above

-- its counts: the count now, and that less the difference
counts_back_of : Option (ℕ × ℕ) → ℕ → Option (ℕ × ℕ)
counts_back_of None count = None
counts_back_of (Some counts) count = Some (count, count + counts.0 - counts.1)

counts_back : (hs : Collection) (es : List Entry) (k : ℕ)
    → counts_at (change_back hs es) k ≡ counts_back_of (counts_at es k) (count_at hs k)
unfolding counts_back_of
counts_back hs [] k = refl
counts_back hs (e ∷ es) k =
    ⊎_elim
    (λ here.
    counts_head (entry_back hs e) (change_back hs es) k here ∙ ap (λ i. Some (count_at hs i, count_at hs i + e.before - e.after)) here
    ∙ ap (λ found. counts_back_of found (count_at hs k)) (sym (counts_head e es k here)))
    (λ other.
    counts_tail (entry_back hs e) (change_back hs es) k other ∙ counts_back hs es k
    ∙ ap (λ found. counts_back_of found (count_at hs k)) (sym (counts_tail e es k other)))
    (cases_eq (rank_of e.pair) k)

-- ---- what is left of the collection

pub taken_back_keeps : (hs : Collection) (es : List Entry) → IsCollection hs → IsChangeList es → AreAboveZero hs es
    → IsCollection (taken_back hs es)
taken_back_keeps hs es hs_is es_is above = changed_keeps hs (change_back hs es) hs_is (back_keeps hs es es_is above)

above_at : (hs : Collection) (es : List Entry) (k before after : ℕ) → AreAboveZero hs es → counts_at es k ≡ Some (before, after)
    → after ≤ count_at hs k + before
above_at hs [] k before after above found = cc
above_at hs (e ∷ es) k before after above found =
    ⊎_elim
    (λ here.
    let parts = some_pair_parts e.before before e.after after (sym (counts_head e es k here) ∙ found) in
    omega (arith, above.0, parts.0, parts.1, ap (λ i. count_at hs i) here))
    (λ other. above_at hs es k before after above.1 (sym (counts_tail e es k other) ∙ found))
    (cases_eq (rank_of e.pair) k)

-- a count once the change that takes a change back is done
count_taken : (hs : Collection) (es : List Entry) (k : ℕ) → IsCollection hs → IsChangeList es → AreAboveZero hs es
    → count_at (taken_back hs es) k ≡ count_after (counts_back_of (counts_at es k) (count_at hs k)) (count_at hs k)
count_taken hs es k hs_is es_is above =
    count_changed 0 hs (change_back hs es) k hs_is (back_keeps hs es es_is above)
    ∙ ap (λ found. count_after found (count_at hs k)) (counts_back hs es k)

gain_by : (count : ℕ) (found : Option (ℕ × ℕ)) → ((before after : ℕ) → found ≡ Some (before, after) → after ≤ count + before)
    → pos (count_after (counts_back_of found count) count) ≡ pos count -ℤ gain_of found
unfolding counts_back_of
gain_by count None above = omega (arith, ints)
gain_by count (Some counts) above = omega (arith, ints, above counts.0 counts.1 refl)

-- each count is less by the change's difference at its pair
pub gain_taken : (hs : Collection) (es : List Entry) (p : Pair) → IsCollection hs → IsChangeList es → AreAboveZero hs es
    → pos (count_in (taken_back hs es) p) ≡ pos (count_in hs p) -ℤ gain_of (counts_at es (rank_of p))
gain_taken hs es p hs_is es_is above =
    ap (λ n. pos n) (count_taken hs es (rank_of p) hs_is es_is above)
    ∙ gain_by (count_in hs p) (counts_at es (rank_of p)) (λ before after found. above_at hs es (rank_of p) before after above found)

difference_by : (count : ℕ) (found : Option (ℕ × ℕ))
    → ((before after : ℕ) → found ≡ Some (before, after) → (after ≤ count + before) × (before ≡ after → ⊥))
    → counts_back_of found count ≡ difference_of count (count_after (counts_back_of found count) count)
unfolding counts_back_of
difference_by count None each = sym (no_difference count count refl)
difference_by count (Some counts) each =
    let own = each counts.0 counts.1 refl in
    sym (some_difference count (count + counts.0 - counts.1) (λ same. own.1 (omega (arith, same, own.0))))

-- and the change between the two collections is the one that takes back
pub between_taken_back : (hs : Collection) (es : List Entry) → IsCollection hs → IsChangeList es → AreAboveZero hs es
    → change_between hs (taken_back hs es) ≡ change_back hs es
between_taken_back hs es hs_is es_is above =
    sym (only_change hs (taken_back hs es) (change_back hs es) hs_is
    (taken_back_keeps hs es hs_is es_is above) (back_keeps hs es es_is above)
    (λ p.
    counts_back hs es (rank_of p)
    ∙ difference_by (count_in hs p) (counts_at es (rank_of p))
    (λ before after found. (above_at hs es (rank_of p) before after above found, counts_differ 0 es (rank_of p) before after es_is found))
    ∙ ap (λ n. difference_of (count_in hs p) n) (sym (count_taken hs es (rank_of p) hs_is es_is above))))
