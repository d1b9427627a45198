-- Rows that are added to a store or removed from it lead to a store.
use Rattle.std.proofs.Common.{◌≡◌, ◌-◌, ◌≤◌, Bool, true, false, cond, List, [], ◌∷◌, Option, Some, None, refl, sym, ◌∙◌, subst, arith, leb-false}
use Rattle.std.proofs.lemmas.Bool.{eqb-false}
use Rattle.s2ix_bag_lists.proofs.Lengths.{small_changed}
use Rattle.s2ix_bag_lists.proofs.Refusals.{made_is_bag, taken_from_none}
use Rattle.s2ix_bag_pairs.specs.declared.pair.Held.{Held}
use Rattle.s2ix_bag_pairs.specs.Collection.{Collection, IsBag, LimitedCollection, copies_in, count_in}
use Rattle.s2ix_bag_pairs.specs.Limits.{count_limit}
use Rattle.s2ix_bag_pairs.specs.Pair.{rank_of}
use Rattle.s2ix_bag_pairs.proofs.Collections.{set_keeps}
use Rattle.s2ix_edit_plan.specs.declared.errors.EditError.TheVariants.{JournalFull}
use Rattle.s2ix_edit_plan.specs.declared.errors.RemoveError.TheVariants as remove
use Rattle.s2ix_edit_plan.specs.Removals.{TakesRows, removal_change, removal_plan_refusal, removal_refusal, with_fewer, without_rows}
use Rattle.s2ix_edit_plan.specs.Rows.{PlansRows, rows_change, rows_plan_refusal, rows_refusal, with_rows}
use Rattle.s2ix_edit_plan.specs.State.{State}
use Rattle.s2ix_edit_plan.proofs.Lesser.{bag_small, no_more_set}
use Rattle.s2ix_edit_plan.proofs.Plans.{makes_between}
use Rattle.s2ix_edit_plan.proofs.Refused.{some_entries}
use Rattle.s2ix_edit_plan.proofs.Removals.{rows_accepted, some_removed, without_rows_keeps}
use Rattle.s2ix_edit_plan.proofs.Rows.{with_rows_keeps}
use Rattle.s2ix_edit_store.specs.Steps.{after_removal, after_rows, with_held}
use Rattle.s2ix_edit_store.specs.Store.{IsStore}
use Rattle.s2ix_edit_store.proofs.AtCursor.{stands_recorded}
use Rattle.s2ix_edit_store.proofs.Between.{between_taken}
use Rattle.s2ix_edit_store.proofs.Kept.{taken_of_entries}
use Rattle.s2ix_edit_store.proofs.Offered.{removal_state}
use Rattle.s2ix_edit_store.proofs.Rows.{refusal_of_entries, rows_state}

-- a journal that isn't full leaves it to the rest
not_full : {E : Type 0} (full : Bool) (error : E) (rest : Option E) → cond full (Some error) rest ≡ None → (full ≡ false) × (rest ≡ None)
not_full true error rest none = cc
not_full false error rest none = (refl, none)

-- ---- rows that are added

pub rows_keep : (s : State) (rows : List Held) → IsStore s → rows_refusal s rows ≡ None → IsStore (after_rows s rows)
rows_keep s rows st none =
    let both = not_full _ JournalFull (rows_plan_refusal s.bag rows) none in
    let room = leb-false _ _ both.0 in
    let new = with_rows rows s.bag.held in
    let es = rows_change s.bag.held rows in
    let makes = makes_between s.bag new es st.bag.rises (with_rows_keeps rows s.bag.held st.bag.rises) refl in
    let plans : PlansRows s.bag rows es = record { rises = makes.rises; matches = makes.matches; result = makes.result } in
    let accepted = refusal_of_entries s rows es st room plans ∙ none in
    let taken = taken_of_entries s.bag es makes.matches accepted in
    let Bag : Collection → Type 0 = λ hs. IsBag (with_held s.bag hs) in
    stands_recorded s (after_rows s rows) es (sym (rows_state s rows es st plans)) st room makes.rises (some_entries s.bag es accepted) taken
    (subst Bag makes.result (made_is_bag s.bag es st.bag makes.rises (taken_from_none s.bag es taken)))

-- ---- rows that are removed

-- they leave a bag
fewer_is_bag : (bag : LimitedCollection) (row : Held) → IsBag bag → IsBag (with_held bag (with_fewer row.pair row.count bag.held))
fewer_is_bag bag row b =
    let count = count_in bag.held row.pair - row.count in
    let within_limit = no_more_set 0 row.pair count bag.held b.rises (λ none. omega (arith, none)) in
    let small : count ≤ count_limit bag.limits = omega (arith, bag_small bag (rank_of row.pair) b) in
    record {
      rises = set_keeps row.pair count bag.held b.rises;
      within_limit = omega (arith, within_limit, b.within_limit);
      small = small_changed (count_limit bag.limits) bag.held (record { pair = row.pair; before = 0; after = count } ∷ [])
          (small, tt) b.small;
    }

without_is_bag : (bag : LimitedCollection) (rows : List Held) → IsBag bag → IsBag (with_held bag (without_rows rows bag.held))
without_is_bag bag [] b = b
without_is_bag bag (row ∷ rows) b =
    without_is_bag (with_held bag (with_fewer row.pair row.count bag.held)) rows (fewer_is_bag bag row b)

pub removal_keeps : (s : State) (rows : List Held) → IsStore s → removal_refusal s rows ≡ None → IsStore (after_removal s rows)
removal_keeps s rows st none =
    let both = not_full _ remove.JournalFull (removal_plan_refusal s.bag.held rows) none in
    let held = rows_accepted s.bag.held rows both.1 in
    let new = without_rows rows s.bag.held in
    let es = removal_change s.bag.held rows in
    let makes = makes_between s.bag new es st.bag.rises (without_rows_keeps rows s.bag.held st.bag.rises) refl in
    let new_is = without_is_bag s.bag rows st.bag in
    let taken = between_taken s.bag new st.bag new_is in
    let takes : TakesRows s.bag rows es = record { held = held.0; rises = makes.rises; taken = taken; result = makes.result } in
    stands_recorded s (after_removal s rows) es (sym (removal_state s rows es st takes)) st (leb-false _ _ both.0) makes.rises
    (some_removed s.bag rows es st.bag takes (eqb-false (copies_in rows) 0 held.1)) taken new_is
