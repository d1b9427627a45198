-- Rows added to the counts of a collection.
use Rattle.std.proofs.Common.{◌≡◌, ◌≢◌, ℕ, zero, suc, ◌+◌, ◌<◌, ◌≤◌, ◌==◌, Bool, true, false, cond, ltb, List, [], ◌∷◌, ◌++◌, length, drop, get_or, Some, refl, sym, ap, ◌∙◌, subst, inl, inr, ⊎_elim, arith, eq-eqb, ne_eqb}
use Rattle.std.proofs.lemmas.Bool.{cases_eq, cond-true, cond-false}
use Rattle.std.proofs.lemmas.List.{append-nil, append_assoc}
use Rattle.std.proofs.lemmas.List.Sorted.{sum_by-IsPermutation}
use Rattle.std.proofs.lemmas.List.Sums.{sum_by-cons}
use Rattle.std.specs.List.{list_any}
use Rattle.std.specs.List.Sorted.{IsNonDecreasingBy, IsPermutation}
use Rattle.s2ix_bag_pairs.specs.declared.pair.Entry.{Entry}
use Rattle.s2ix_bag_pairs.specs.declared.pair.Held.{Held}
use Rattle.s2ix_bag_lists.specs.Apply.{AreBefore}
use Rattle.s2ix_bag_pairs.specs.Change.{change_between, changed, IsChangeListFrom}
use Rattle.s2ix_bag_pairs.specs.Collection.{Collection, LimitedCollection, IsBag, IsCollection, copies_in, count_at, count_in, set_count}
use Rattle.s2ix_bag_pairs.specs.Limits.{count_limit, pairs_limit}
use Rattle.s2ix_bag_pairs.specs.Pair.{rank_of}
use Rattle.s2ix_bag_pairs.proofs.Changes.{change_lower}
use Rattle.s2ix_bag_pairs.proofs.Collections.{count_set_other, count_set_same, same_collection, set_count_in, set_keeps}
use Rattle.s2ix_bag_lists.proofs.Refusals.{no_mismatch}
use Rattle.s2ix_edit_plan.specs.declared.errors.EditError.{EditError}
use Rattle.s2ix_edit_plan.specs.declared.errors.EditError.TheVariants.{NoChange, TooManyCopies}
use Rattle.s2ix_edit_plan.specs.Edit.{with_more}
use Rattle.s2ix_edit_plan.specs.Errors.{IsEditRefusal, MayWantMemory}
use Rattle.s2ix_edit_plan.specs.Plan.{entries_refusal}
use Rattle.s2ix_edit_plan.specs.Refusals.{has_count_above, has_count_above_every_limit}
use Rattle.s2ix_edit_plan.specs.Rows.{IsRowsError, PlansRows, copies_at, gain_of, gains_from, gains_of, rows_change, rows_plan_refusal, with_rows}
use Rattle.s2ix_edit_plan.proofs.Above.{above_from_count, above_own, any_above_changed}
use Rattle.s2ix_edit_plan.proofs.Plans.{an_entry, between_changed, no_entry}
use Rattle.s2ix_edit_plan.proofs.Refused.{changes_some, entries_by_three, first_of_three, is_high, same_where_none}

-- ---- the counts

-- a row's own copies, and those for another pair
pub own_copies : (row : Held) (rows : List Held) (k : ℕ) → rank_of row.pair ≡ k → copies_at (row ∷ rows) k ≡ row.count + copies_at rows k
own_copies row rows k here =
    let own : cond (rank_of row.pair == k) row.count 0 ≡ row.count = cond-true _ _ _ (eq-eqb _ _ here) in
    let all : copies_at (row ∷ rows) k ≡ cond (rank_of row.pair == k) row.count 0 + copies_at rows k =
    sum_by-cons (λ (r : Held). cond (rank_of r.pair == k) r.count 0) row rows in
    omega (arith, own, all)

pub other_copies : (row : Held) (rows : List Held) (k : ℕ) → (rank_of row.pair ≡ k → ⊥) → copies_at (row ∷ rows) k ≡ copies_at rows k
other_copies row rows k other =
    let own : cond (rank_of row.pair == k) row.count 0 ≡ 0 = cond-false _ _ _ (ne_eqb _ _ other) in
    let all : copies_at (row ∷ rows) k ≡ cond (rank_of row.pair == k) row.count 0 + copies_at rows k =
    sum_by-cons (λ (r : Held). cond (rank_of r.pair == k) r.count 0) row rows in
    omega (arith, own, all)

pub all_copies : (row : Held) (rows : List Held) → copies_in (row ∷ rows) ≡ row.count + copies_in rows
all_copies row rows = sum_by-cons (λ (r : Held). r.count) row rows

pub with_rows_keeps : (rows : List Held) (hs : Collection) → IsCollection hs → IsCollection (with_rows rows hs)
with_rows_keeps [] hs is = is
with_rows_keeps (row ∷ rows) hs is =
    with_rows_keeps rows (with_more row.pair row.count hs) (set_keeps row.pair (count_in hs row.pair + row.count) hs is)

-- each count grows by the copies that the rows have for its pair
pub rows_counted : (rows : List Held) (hs : Collection) (k : ℕ) → IsCollection hs
    → count_at (with_rows rows hs) k ≡ count_at hs k + copies_at rows k
rows_counted [] hs k is = omega arith
rows_counted (row ∷ rows) hs k is =
    let sum = count_in hs row.pair + row.count in
    let more = with_more row.pair row.count hs in
    let rest = rows_counted rows more k (set_keeps row.pair sum hs is) in
    ⊎_elim
    (λ here.
    let own = sym (ap (λ j. count_at more j) here) ∙ count_set_same 0 row.pair sum hs is in
    omega (arith, rest, own, ap (λ j. count_at hs j) here, own_copies row rows k here))
    (λ other. omega (arith, rest, count_set_other row.pair sum hs k other, other_copies row rows k other))
    (cases_eq (rank_of row.pair) k)

-- so lists of rows that have the same copies for each pair make one collection
pub same_rows : (rows others : List Held) (hs : Collection) → IsCollection hs → ((k : ℕ) → copies_at rows k ≡ copies_at others k)
    → with_rows rows hs ≡ with_rows others hs
same_rows rows others hs is same =
    same_collection (with_rows rows hs) (with_rows others hs) (with_rows_keeps rows hs is) (with_rows_keeps others hs is)
    (λ p.
    let k = rank_of p in
    rows_counted rows hs k is ∙ ap (λ n. count_at hs k + n) (same k) ∙ sym (rows_counted others hs k is))

-- as have those in another order
pub permuted_copies : (rows sorted : List Held) (k : ℕ) → IsPermutation rows sorted → copies_at sorted k ≡ copies_at rows k
permuted_copies rows sorted k same =
    sum_by-IsPermutation (λ (row : Held). cond (rank_of row.pair == k) row.count 0) rows sorted same

-- ---- the entries

-- rows in the order of their pairs, from a rank on
abbrev pub FollowFrom : ℕ → List Held → Type 0
FollowFrom n [] = Unit {0}
FollowFrom n (row ∷ rows) = (n ≤ rank_of row.pair) × FollowFrom (rank_of row.pair) rows

follow_from : (n : ℕ) (rows : List Held) → IsNonDecreasingBy (λ (row : Held). rank_of row.pair) rows
    → ((k : ℕ) (d : Held) → k < length rows → n ≤ rank_of (get_or rows k d).pair) → FollowFrom n rows
follow_from n [] sorted low = tt
follow_from n (row ∷ rows) sorted low = (
  low 0 row (omega arith),
  follow_from (rank_of row.pair) rows (λ i j d le within. sorted (suc i) (suc j) d (omega arith) (omega arith))
      (λ k d within. sorted 0 (suc k) d (omega arith) (omega arith)),
)

gain_rises : (n : ℕ) (hs : Collection) (row : Held) (rest : List Entry) → n ≤ rank_of row.pair
    → IsChangeListFrom (rank_of row.pair + 1) rest → IsChangeListFrom n (gain_of hs row ++ rest)
gain_rises n hs row rest low rises =
    let before = count_in hs row.pair in
    let Rises : List Entry → Type 0 = λ es. IsChangeListFrom n (es ++ rest) in
    ⊎_elim
    (λ same. subst Rises (sym (no_entry row.pair before (before + row.count) same))
    (change_lower n (rank_of row.pair + 1) rest (omega arith) rises))
    (λ differs. subst Rises (sym (an_entry row.pair before (before + row.count) differs)) (low, differs, rises))
    (cases_eq before (before + row.count))

gains_rise : (n : ℕ) (hs : Collection) (row : Held) (rows : List Held) → n ≤ rank_of row.pair → FollowFrom (rank_of row.pair) rows
    → IsChangeListFrom n (gains_from hs row rows)
gains_rise n hs row [] low follow =
    let Rises : List Entry → Type 0 = λ es. IsChangeListFrom n es in
    subst Rises (append-nil (gain_of hs row)) (gain_rises n hs row [] low tt)
gains_rise n hs row (next ∷ rows) low follow =
    let Rises : List Entry → Type 0 = λ es. IsChangeListFrom n es in
    let both : Held = record { pair = row.pair; count = row.count + next.count } in
    ⊎_elim
    (λ same. subst Rises (sym (cond-true _ _ _ (eq-eqb _ _ same)))
    (gains_rise n hs both rows low (subst (λ k. FollowFrom k rows) same follow.1)))
    (λ differs. subst Rises (sym (cond-false _ _ _ (ne_eqb _ _ differs)))
    (gain_rises n hs row (gains_from hs next rows) low
    (gains_rise (rank_of row.pair + 1) hs next rows (omega (arith, follow.0, differs)) follow.1)))
    (cases_eq (rank_of next.pair) (rank_of row.pair))

gain_before : (hs : Collection) (row : Held) (rest : List Entry) → AreBefore hs rest → AreBefore hs (gain_of hs row ++ rest)
gain_before hs row rest before =
    let count = count_in hs row.pair in
    let Before : List Entry → Type 0 = λ es. AreBefore hs (es ++ rest) in
    ⊎_elim
    (λ same. subst Before (sym (no_entry row.pair count (count + row.count) same)) before)
    (λ differs. subst Before (sym (an_entry row.pair count (count + row.count) differs)) (refl, before))
    (cases_eq count (count + row.count))

gains_before : (hs : Collection) (row : Held) (rows : List Held) → AreBefore hs (gains_from hs row rows)
gains_before hs row [] =
    let Before : List Entry → Type 0 = λ es. AreBefore hs es in
    subst Before (append-nil (gain_of hs row)) (gain_before hs row [] tt)
gains_before hs row (next ∷ rows) =
    let Before : List Entry → Type 0 = λ es. AreBefore hs es in
    let both : Held = record { pair = row.pair; count = row.count + next.count } in
    ⊎_elim
    (λ same. subst Before (sym (cond-true _ _ _ (eq-eqb _ _ same))) (gains_before hs both rows))
    (λ differs. subst Before (sym (cond-false _ _ _ (ne_eqb _ _ differs)))
    (gain_before hs row (gains_from hs next rows) (gains_before hs next rows)))
    (cases_eq (rank_of next.pair) (rank_of row.pair))

gain_changes : (hs ks : Collection) (row : Held) (rest : List Entry) → IsCollection ks → count_in hs row.pair ≡ count_in ks row.pair
    → changed ks (gain_of hs row ++ rest) ≡ changed (with_more row.pair row.count ks) rest
gain_changes hs ks row rest is here =
    let p = row.pair in
    let before = count_in hs p in
    ⊎_elim
    (λ same.
    let stays : count_in ks p + row.count ≡ count_in ks p = omega (arith, same) in
    ap (λ es. changed ks (es ++ rest)) (no_entry p before (before + row.count) same)
    ∙ ap (λ ls. changed ls rest) (sym (ap (λ n. set_count p n ks) stays ∙ set_count_in p ks is)))
    (λ differs.
    ap (λ es. changed ks (es ++ rest)) (an_entry p before (before + row.count) differs)
    ∙ ap (λ n. changed (set_count p (n + row.count) ks) rest) here)
    (cases_eq before (before + row.count))

-- two rows of one pair are one
both_copies : (row next : Held) (k : ℕ) → rank_of next.pair ≡ rank_of row.pair
    → copies_at (record { pair = row.pair; count = row.count + next.count } ∷ []) k ≡ copies_at (row ∷ next ∷ []) k
both_copies row next k same =
    let both : Held = record { pair = row.pair; count = row.count + next.count } in
    ⊎_elim
    (λ here. omega (arith, own_copies both [] k here, own_copies row (next ∷ []) k here, own_copies next [] k (same ∙ here)))
    (λ other. omega (
      arith,
      other_copies both [] k other,
      other_copies row (next ∷ []) k other,
      other_copies next [] k (λ e. other (sym same ∙ e)),
    ))
    (cases_eq (rank_of row.pair) k)

gains_change : (hs ks : Collection) (row : Held) (rows : List Held) → IsCollection ks → FollowFrom (rank_of row.pair) rows
    → ((k : ℕ) → rank_of row.pair ≤ k → count_at hs k ≡ count_at ks k)
    → changed ks (gains_from hs row rows) ≡ with_rows (row ∷ rows) ks
gains_change hs ks row [] is follow same =
    ap (λ es. changed ks es) (sym (append-nil (gain_of hs row)))
    ∙ gain_changes hs ks row [] is (same (rank_of row.pair) (omega arith))
gains_change hs ks row (next ∷ rows) is follow same =
    let both : Held = record { pair = row.pair; count = row.count + next.count } in
    let more = with_more row.pair row.count ks in
    ⊎_elim
    (λ one.
    ap (λ es. changed ks es) (cond-true _ _ _ (eq-eqb _ _ one))
    ∙ gains_change hs ks both rows is (subst (λ k. FollowFrom k rows) one follow.1) same
    ∙ ap (λ ls. with_rows rows ls) (same_rows (both ∷ []) (row ∷ next ∷ []) ks is (λ k. both_copies row next k one)))
    (λ two.
    ap (λ es. changed ks es) (cond-false _ _ _ (ne_eqb _ _ two))
    ∙ gain_changes hs ks row (gains_from hs next rows) is (same (rank_of row.pair) (omega arith))
    ∙ gains_change hs more next rows (set_keeps row.pair (count_in ks row.pair + row.count) ks is) follow.1
    (λ k le. same k (omega (arith, follow.0, le))
    ∙ sym (count_set_other row.pair (count_in ks row.pair + row.count) ks k (λ e. two (omega (arith, e, le, follow.0))))))
    (cases_eq (rank_of next.pair) (rank_of row.pair))

-- ---- the walk over rows in the order of their pairs

-- a row of the pair that is pending is added to it, and any other ends it
pub gains_same : (hs : Collection) (pending next : Held) (rest : List Held) → rank_of next.pair ≡ rank_of pending.pair
    → gains_from hs pending (next ∷ rest) ≡ gains_from hs (record { pair = pending.pair; count = pending.count + next.count }) rest
gains_same hs pending next rest same = cond-true _ _ _ (eq-eqb _ _ same)

pub gains_other : (hs : Collection) (pending next : Held) (rest : List Held) → rank_of next.pair ≢ rank_of pending.pair
    → gains_from hs pending (next ∷ rest) ≡ gain_of hs pending ++ gains_from hs next rest
gains_other hs pending next rest differs = cond-false _ _ _ (ne_eqb _ _ differs)

pub copies_dropped : (i : ℕ) (rows : List Held) (k : ℕ) → copies_at (drop i rows) k ≤ copies_at rows k
copies_dropped zero rows k = omega arith
copies_dropped (suc i) [] k = omega arith
copies_dropped (suc i) (row ∷ rows) k =
    let rest = copies_dropped i rows k in
    let more : copies_at (row ∷ rows) k ≡ cond (rank_of row.pair == k) row.count 0 + copies_at rows k =
    sum_by-cons (λ (r : Held). cond (rank_of r.pair == k) r.count 0) row rows in
    omega (arith, rest, more)

-- the entries so far and those of what is left are those of all rows, and so are the copies of the pair that is pending
abbrev pub Walks : Collection → List Held → List Entry → Held → List Held → Type 0
Walks hs rows es pending left =
    (es ++ gains_from hs pending left ≡ gains_of hs rows)
    × (pending.count + copies_at left (rank_of pending.pair) ≤ copies_at rows (rank_of pending.pair))

pub walks_same : (hs : Collection) (rows : List Held) (es : List Entry) (pending next : Held) (left : List Held)
    → rank_of next.pair ≡ rank_of pending.pair → Walks hs rows es pending (next ∷ left)
    → Walks hs rows es (record { pair = pending.pair; count = pending.count + next.count }) left
walks_same hs rows es pending next left same walks = (
  ap (λ fs. es ++ fs) (sym (gains_same hs pending next left same)) ∙ walks.0,
  (let own = own_copies next left (rank_of pending.pair) same in omega (arith, own, walks.1)),
)

pub walks_other : (hs : Collection) (rows : List Held) (es : List Entry) (pending next : Held) (left : List Held)
    → rank_of next.pair ≢ rank_of pending.pair → copies_at (next ∷ left) (rank_of next.pair) ≤ copies_at rows (rank_of next.pair)
    → Walks hs rows es pending (next ∷ left) → Walks hs rows (es ++ gain_of hs pending) next left
walks_other hs rows es pending next left differs least walks = (
  append_assoc es (gain_of hs pending) (gains_from hs next left)
      ∙ ap (λ fs. es ++ fs) (sym (gains_other hs pending next left differs)) ∙ walks.0,
  (let own = own_copies next left (rank_of next.pair) refl in omega (arith, own, least)),
)

-- the rows after the first have no more copies than all
pub rest_copies : (rows rest : List Held) (first : Held) (i : ℕ) (k : ℕ) → rows ≡ first ∷ rest
    → copies_at (drop i rest) k ≤ copies_at rows k
rest_copies rows rest first i k is =
    let dropped = copies_dropped i rest k in
    let past = copies_dropped 1 (first ∷ rest) k in
    omega (arith, dropped, past, ap (λ rs. copies_at rs k) is)

-- if no entry of a pending row can be made, none of all rows can
pub pending_error : (hs : Collection) (pending : Held) (rows : List Held) (error : EditError)
    → pending.count ≤ copies_at rows (rank_of pending.pair) → IsRowsError hs (pending ∷ []) error → IsRowsError hs rows error
pending_error hs pending rows error least either =
    ⊎_elim
    (λ memory. inl memory)
    (λ above.
    let rank = above.1.0 in
    let none : copies_at [] rank ≡ 0 = refl in
    inr (
      above.0,
      (
        rank,
        ⊎_elim
            (λ here. omega (arith, above.1.1, own_copies pending [] rank here, none, least, ap (λ k. copies_at rows k) here))
            (λ other. omega (arith, above.1.1, other_copies pending [] rank other, none))
            (cases_eq (rank_of pending.pair) rank),
      ),
    ))
    either

-- a pending sum that no `u32` holds is above every limit
pub sum_error : (hs : Collection) (pending next : Held) (rest rows : List Held) → rank_of next.pair ≡ rank_of pending.pair
    → pending.count + copies_at (next ∷ rest) (rank_of pending.pair) ≤ copies_at rows (rank_of pending.pair)
    → 4294967296 ≤ pending.count + next.count → IsRowsError hs rows TooManyCopies
sum_error hs pending next rest rows same least high =
    inr (refl, (rank_of pending.pair, omega (arith, least, high, own_copies next rest (rank_of pending.pair) same)))

-- ---- the plan

sorted_plans : (bag : LimitedCollection) (rows : List Held) → IsBag bag → IsNonDecreasingBy (λ (row : Held). rank_of row.pair) rows
    → PlansRows bag rows (gains_of bag.held rows)
sorted_plans bag [] b sorted = record { rises = tt; matches = no_mismatch bag.held [] tt; result = refl }
sorted_plans bag (row ∷ rows) b sorted =
    let follow = follow_from 0 (row ∷ rows) sorted (λ k d within. omega arith) in
    record {
      rises = gains_rise 0 bag.held row rows (omega arith) follow.1;
      matches = no_mismatch bag.held (gains_from bag.held row rows) (gains_before bag.held row rows);
      result = gains_change bag.held bag.held row rows b.rises follow.1 (λ k le. refl);
    }

-- the gains of the rows in the order of their pairs carry the rows out
pub gains_plan : (bag : LimitedCollection) (rows sorted : List Held) → IsBag bag
    → IsNonDecreasingBy (λ (row : Held). rank_of row.pair) sorted → IsPermutation rows sorted
    → PlansRows bag rows (gains_of bag.held sorted)
gains_plan bag rows sorted b order same =
    let plans = sorted_plans bag sorted b order in
    record {
      rises = plans.rises;
      matches = plans.matches;
      result = plans.result ∙ same_rows sorted rows bag.held b.rises (λ k. permuted_copies rows sorted k same);
    }

-- rows of no copies are carried out by no entry
pub none_at : (rows : List Held) (k : ℕ) → copies_at rows k ≤ copies_in rows
none_at [] k = omega arith
none_at (row ∷ rows) k =
    let rest = none_at rows k in
    ⊎_elim
    (λ here. omega (arith, rest, own_copies row rows k here, all_copies row rows))
    (λ other. omega (arith, rest, other_copies row rows k other, all_copies row rows))
    (cases_eq (rank_of row.pair) k)

pub nothing_plans : (bag : LimitedCollection) (rows : List Held) → IsBag bag → copies_in rows ≡ 0 → PlansRows bag rows []
nothing_plans bag rows b none = record {
  rises = tt;
  matches = no_mismatch bag.held [] tt;
  result = same_rows [] rows bag.held b.rises (λ k. omega (arith, none, none_at rows k));
}

-- ---- the refusal

-- the change that the rows make is their plan
pub rows_planned : (bag : LimitedCollection) (rows : List Held) (es : List Entry) → IsBag bag → PlansRows bag rows es
    → rows_change bag.held rows ≡ es
rows_planned bag rows es b plans =
    ap (λ hs. change_between bag.held hs) (sym plans.result) ∙ between_changed bag es b.rises plans.rises plans.matches

by_three : (bag : LimitedCollection) (rows : List Held)
    → rows_plan_refusal bag rows
    ≡ first_of_three (length (rows_change bag.held rows) == 0) (is_high bag (with_rows rows bag.held))
    (ltb (pairs_limit bag.limits) (length (with_rows rows bag.held)))
unfolding first_of_three is_high
by_three bag rows = refl

any_high : (bag : LimitedCollection) (rows : List Held) (es : List Entry) → IsBag bag → PlansRows bag rows es
    → is_high bag (with_rows rows bag.held) ≡ list_any (λ e. ltb (count_limit bag.limits) e.after) es
unfolding is_high
any_high bag rows es b plans =
    ap (λ hs. has_count_above (count_limit bag.limits) hs) (sym plans.result)
    ∙ any_above_changed (count_limit bag.limits) bag.held es b.rises plans.rises b.small

-- rows are refused as the entries that they plan are
pub rows_refused : (bag : LimitedCollection) (rows : List Held) (es : List Entry) → IsBag bag → PlansRows bag rows es
    → rows_plan_refusal bag rows ≡ entries_refusal bag es
rows_refused bag rows es b plans =
    let many : Collection → Bool = λ hs. ltb (pairs_limit bag.limits) (length hs) in
    let new = with_rows rows bag.held in
    let high : Bool = list_any (λ (e : Entry). ltb (count_limit bag.limits) e.after) es in
    by_three bag rows
    ∙ ap (λ (ds : List Entry). first_of_three (length ds == 0) (is_high bag new) (many new)) (rows_planned bag rows es b plans)
    ∙ ap (λ t. first_of_three (length es == 0) t (many new)) (any_high bag rows es b plans)
    ∙ ap (λ hs. first_of_three (length es == 0) high (many hs)) (sym plans.result)
    ∙ entries_by_three bag es

-- rows that make a count above every limit are refused for their copies
rows_too_high : (bag : LimitedCollection) (rows : List Held) → IsBag bag
    → has_count_above_every_limit (with_rows rows bag.held) ≡ true → rows_plan_refusal bag rows ≡ Some TooManyCopies
unfolding first_of_three is_high
rows_too_high bag rows b every =
    let new = with_rows rows bag.held in
    let high = above_own bag new every in
    let many : Bool = ltb (pairs_limit bag.limits) (length new) in
    by_three bag rows
    ∙ ap (λ t. first_of_three t (is_high bag new) many) (changes_some bag new b (with_rows_keeps rows bag.held b.rises) high)
    ∙ ap (λ t. first_of_three false t many) high

memory_of_three : (same high many : Bool) → MayWantMemory (first_of_three same high many)
unfolding first_of_three
memory_of_three true high many = tt
memory_of_three false true many = tt
memory_of_three false false true = tt
memory_of_three false false false = tt

pub rows_want_memory : (bag : LimitedCollection) (rows : List Held) → MayWantMemory (rows_plan_refusal bag rows)
rows_want_memory bag rows =
    subst MayWantMemory (sym (by_three bag rows)) (memory_of_three _ _ _)

-- a sum that is above every limit is a count that is
rows_above : (rows sorted : List Held) (hs : Collection) (rank : ℕ) → IsCollection hs → IsPermutation rows sorted
    → 4294967295 < count_at hs rank + copies_at sorted rank → has_count_above_every_limit (with_rows rows hs) ≡ true
rows_above rows sorted hs rank is same above =
    above_from_count 4294967295 (with_rows rows hs) rank
    (omega (arith, rows_counted rows hs rank is, permuted_copies rows sorted rank same, above))

pub copies_above : (rows sorted : List Held) (hs : Collection) (error : EditError) → IsCollection hs → IsPermutation rows sorted
    → IsRowsError hs sorted error → error ≡ TooManyCopies → has_count_above_every_limit (with_rows rows hs) ≡ true
copies_above rows sorted hs error is same either copies =
    ⊎_elim
    (λ memory. let clash = sym copies ∙ memory in cc)
    (λ above. rows_above rows sorted hs above.1.0 is same above.1.1)
    either

-- and a refusal
pub error_refused : (bag : LimitedCollection) (rows sorted : List Held) (error : EditError) → IsBag bag → IsPermutation rows sorted
    → IsRowsError bag.held sorted error → IsEditRefusal error (rows_plan_refusal bag rows)
error_refused bag rows sorted error b same either =
    let Refused : EditError → Type 0 = λ e. IsEditRefusal e (rows_plan_refusal bag rows) in
    ⊎_elim
    (λ memory. subst Refused (sym memory) (rows_want_memory bag rows))
    (λ above.
    subst Refused (sym above.0) (rows_too_high bag rows b (rows_above rows sorted bag.held above.1.0 b.rises same above.1.1)))
    either

-- ---- rows of no copies

-- if no pair gains copies, no row has any
pub copies_none : (rows : List Held) → ((k : ℕ) → copies_at rows k ≡ 0) → copies_in rows ≡ 0
copies_none [] none = refl
copies_none (row ∷ rows) none =
    let own : row.count ≡ 0 =
    omega (arith, own_copies row rows (rank_of row.pair) refl, none (rank_of row.pair)) in
    let rest = copies_none rows
    (λ k. ⊎_elim
    (λ here. omega (arith, own_copies row rows k here, none k))
    (λ other. sym (other_copies row rows k other) ∙ none k)
    (cases_eq (rank_of row.pair) k)) in
    omega (arith, own, rest, all_copies row rows)

same_of_three : (same high many : Bool) → first_of_three same high many ≡ Some NoChange → same ≡ true
unfolding first_of_three
same_of_three true high many is = refl
same_of_three false true many is = cc
same_of_three false false true is = cc
same_of_three false false false is = cc

-- rows are refused because nothing would change only if no row has copies
pub nothing_from_refusal : (bag : LimitedCollection) (rows : List Held) → IsBag bag → rows_plan_refusal bag rows ≡ Some NoChange
    → copies_in rows ≡ 0
nothing_from_refusal bag rows b is =
    let new = with_rows rows bag.held in
    let same = same_where_none bag new b (with_rows_keeps rows bag.held b.rises)
    (same_of_three _ _ _ (sym (by_three bag rows) ∙ is)) in
    copies_none rows (λ k. omega (arith, rows_counted rows bag.held k b.rises, ap (λ hs. count_at hs k) same))

-- and then they are
pub refused_for_nothing : (bag : LimitedCollection) (rows : List Held) → IsBag bag → copies_in rows ≡ 0
    → rows_plan_refusal bag rows ≡ Some NoChange
refused_for_nothing bag rows b none = rows_refused bag rows [] b (nothing_plans bag rows b none)
