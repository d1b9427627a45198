-- How large the changes are that a store records.
use Rattle.std.proofs.Common.{◌≡◌, ℕ, ◌<◌, ◌≤◌, List, [], ◌∷◌, length, reverse, All, None, sym, ap, ◌∙◌, subst, arith}
use Rattle.std.proofs.lemmas.List.Elements.{All-nil, All-cons, All-weaker}
use Rattle.s2ix_bag_pairs.specs.declared.limits.Limits.{Limits}
use Rattle.s2ix_bag_pairs.specs.declared.pair.Entry.{Entry}
use Rattle.s2ix_bag_lists.specs.Apply.{apply_refusal}
use Rattle.s2ix_bag_pairs.specs.Change.{IsChangeList, changed, inverse_of}
use Rattle.s2ix_bag_pairs.specs.Collection.{LimitedCollection, IsBag}
use Rattle.s2ix_bag_pairs.specs.Limits.{count_limit, pairs_limit}
use Rattle.s2ix_bag_pairs.proofs.Inverse.{inverse_keeps}
use Rattle.s2ix_bag_lists.proofs.Lengths.{AreAfterWithin}
use Rattle.s2ix_bag_lists.proofs.Refusals.{inverse_taken, made_is_bag, taken_from_none}
use Rattle.s2ix_edit_plan.specs.State.{State}
use Rattle.s2ix_edit_plan.proofs.Plans.{between_changed}
use Rattle.s2ix_edit_plan.proofs.Sizes.{length_between}
use Rattle.s2ix_edit_store.specs.Recorded.{IsRecorded}
use Rattle.s2ix_edit_store.specs.Steps.{with_held}
use Rattle.s2ix_edit_store.specs.Store.{IsStore, CanGoBack, CanGoOn}
use Rattle.s2ix_edit_store.proofs.Along.{all_back_again}
use Rattle.s2ix_edit_store.proofs.AtCursor.{taken_again}
use Rattle.s2ix_edit_store.proofs.Taken.{not_mismatched}

-- ---- how high their counts

small_after : (c : ℕ) (es : List Entry) → AreAfterWithin c es → All (λ e. e.after ≤ c) es
small_after c [] within = All-nil (λ (e : Entry). e.after ≤ c)
small_after c (e ∷ es) within = All-cons (λ (e : Entry). e.after ≤ c) e es within.0 (small_after c es within.1)

small_before : (c : ℕ) (es : List Entry) → AreAfterWithin c (inverse_of es) → All (λ e. e.before ≤ c) es
small_before c [] within = All-nil (λ (e : Entry). e.before ≤ c)
small_before c (e ∷ es) within = All-cons (λ (e : Entry). e.before ≤ c) e es within.0 (small_before c es within.1)

-- a change that a bag takes is within the bag's limits
recorded : (bag : LimitedCollection) (es : List Entry) → IsBag bag → IsChangeList es → 0 < length es → apply_refusal bag es ≡ None
    → IsRecorded bag.limits es
recorded bag es b rises some taken =
    let takes = taken_from_none bag es taken in
    let back = inverse_taken bag es b rises takes in
    let between = ap length (between_changed bag es b.rises rises (not_mismatched bag es taken)) in
    record {
      rises = rises;
      some = omega (arith, some);
      within_limit = omega (arith, length_between bag.held (changed bag.held es), between, b.within_limit, takes.within_limit);
      small_before = small_before (count_limit bag.limits) es back.within;
      small_after = small_after (count_limit bag.limits) es takes.within;
    }

-- ---- those of a store

recorded_on : (bag : LimitedCollection) (ess : List (List Entry)) → IsBag bag → CanGoOn bag ess → All (IsRecorded bag.limits) ess
recorded_on bag [] b on = All-nil (IsRecorded bag.limits)
recorded_on bag (es ∷ rest) b on =
    let next = made_is_bag bag es b on.0 (taken_from_none bag es on.2) in
    All-cons (IsRecorded bag.limits) es rest (recorded bag es b on.0 on.1 on.2)
    (recorded_on (with_held bag (changed bag.held es)) rest next on.3)

recorded_back : (bag : LimitedCollection) (ess : List (List Entry)) → IsBag bag → CanGoBack bag ess → All (IsRecorded bag.limits) ess
recorded_back bag [] b back = All-nil (IsRecorded bag.limits)
recorded_back bag (es ∷ older) b back =
    let prev = with_held bag (changed bag.held (inverse_of es)) in
    let prev_is = made_is_bag bag (inverse_of es) b (inverse_keeps es back.0) (taken_from_none bag (inverse_of es) back.2) in
    All-cons (IsRecorded bag.limits) es older (recorded prev es prev_is back.0 back.1 (taken_again bag es b back.0 back.2))
    (recorded_back prev older prev_is back.3)

pub done_recorded : (s : State) → IsStore s → All (IsRecorded s.bag.limits) s.done
done_recorded s st = all_back_again (IsRecorded s.bag.limits) s.done (recorded_back s.bag (reverse s.done) st.bag st.can_go_back)

pub undone_recorded : (s : State) → IsStore s → All (IsRecorded s.bag.limits) s.undone
undone_recorded s st = all_back_again (IsRecorded s.bag.limits) s.undone (recorded_on s.bag (reverse s.undone) st.bag st.can_go_on)

-- what holds of a list of changes of any store holds of the one that is read from this store
pub of_listed : (P : State → List (List Entry) → Type 0) (changes : State → List (List Entry)) → ((s : State) → IsStore s → P s (changes s))
    → (inside now : State) (listed : List (List Entry)) → IsStore inside → inside ≡ now → listed ≡ changes inside → P now listed
of_listed P changes all inside now listed st is read =
    let Holds : State → Type 0 = λ s. P s (changes s) in
    let Listed : List (List Entry) → Type 0 = λ ess. P now ess in
    subst Listed (sym (read ∙ ap changes is)) (subst Holds is (all inside st))

-- ---- whatever the limits

pub recorded_within_widest : (limits : Limits) (es : List Entry) → IsRecorded limits es
    → (length es ≤ 2000000) × All (λ e. e.before ≤ 4294967295) es × All (λ e. e.after ≤ 4294967295) es
recorded_within_widest limits es is =
    let within_limit : pairs_limit limits ≤ 1000000 = limits.in_range.1 in
    let small : count_limit limits ≤ 4294967295 = limits.in_range.3 in (
      omega (arith, within_limit, is.within_limit),
      All-weaker (λ (e : Entry). e.before ≤ count_limit limits) (λ (e : Entry). e.before ≤ 4294967295)
          (λ e low. omega (arith, small, low)) es is.small_before,
      All-weaker (λ (e : Entry). e.after ≤ count_limit limits) (λ (e : Entry). e.after ≤ 4294967295) (λ e low. omega (arith, small, low))
          es is.small_after,
    )
