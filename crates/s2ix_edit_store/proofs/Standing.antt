-- Counts as sums of what stands.
use Rattle.std.proofs.Common.{◌≡◌, ◌≢◌, ℕ, zero, suc, ◌+◌, ◌<◌, true, false, List, [], ◌∷◌, ◌++◌, All, get_or, length, reverse, take, Option, Some, None, pos, ◌+ℤ◌, refl, sym, ap, ◌∙◌, subst, ⊎_elim, arith}
use Rattle.std.proofs.lemmas.Bool.{cases_eq}
use Rattle.std.proofs.lemmas.Int.{ints}
use Rattle.std.proofs.lemmas.List.Elements.{All-nil, All-cons, All-get_or}
use Rattle.std.proofs.lemmas.Option.{get_or_from_slice_get, slice_get_within}
use Rattle.std.proofs.lemmas.List.{append_assoc, reverse-reverse}
use Rattle.s2ix_bag_pairs.specs.declared.pair.Entry.{Entry}
use Rattle.s2ix_bag_pairs.specs.declared.pair.Pair.{Pair}
use Rattle.s2ix_bag_pairs.specs.Change.{changed, counts_at, difference_of, inverse_of, IsChangeList}
use Rattle.s2ix_bag_pairs.specs.Collection.{Collection, LimitedCollection, IsBag, count_in}
use Rattle.s2ix_bag_pairs.specs.Pair.{rank_of}
use Rattle.s2ix_bag_pairs.specs.TakenBack.{gain_of}
use Rattle.s2ix_bag_pairs.proofs.Differences.{counts_between, no_difference, some_difference}
use Rattle.s2ix_bag_pairs.proofs.Inverse.{inverse_keeps}
use Rattle.s2ix_bag_lists.proofs.Refusals.{made_is_bag, taken_from_none}
use Rattle.s2ix_edit_plan.specs.State.{State, earlier, history_of, later}
use Rattle.s2ix_edit_plan.specs.declared.edit.Edit.{Edit}
use Rattle.s2ix_edit_plan.specs.declared.edit.Edit.TheVariants.{Revert}
use Rattle.s2ix_edit_plan.specs.Edit.{edited, numbered}
use Rattle.s2ix_edit_plan.specs.History.{History}
use Rattle.s2ix_edit_plan.specs.Refusals.{edit_refusal}
use Rattle.s2ix_edit_plan.proofs.Edited.{edited_held}
use Rattle.s2ix_edit_plan.proofs.EachRefusal.{revert_accepted}
use Rattle.s2ix_edit_plan.proofs.Revert.{subtracts}
use Rattle.s2ix_edit_store.specs.Standing.{first_collection, gain_along, without_numbered}
use Rattle.s2ix_edit_store.specs.Steps.{after_edit, after_redo, after_undo, with_held}
use Rattle.s2ix_edit_store.specs.Store.{IsStore, CanGoBack}
use Rattle.s2ix_edit_store.proofs.Along.{all_back_again, change_back, length_of_history, reverse_cons}
use Rattle.s2ix_edit_store.proofs.Followed.{history_after_redo, history_after_undo, history_edited}
use Rattle.s2ix_edit_store.proofs.Planned.{stand}

-- ---- sums of differences

gain_of_difference : (m n : ℕ) → pos n ≡ pos m +ℤ gain_of (difference_of m n)
gain_of_difference m n =
    ⊎_elim
    (λ same. omega (arith, ints, same, ap gain_of (no_difference m n same)))
    (λ other. omega (arith, ints, ap gain_of (some_difference m n other)))
    (cases_eq m n)

gain_push : (ess : List (List Entry)) (es : List Entry) (pair : Pair)
    → gain_along (ess ++ es ∷ []) pair ≡ gain_along ess pair +ℤ gain_of (counts_at es (rank_of pair))
gain_push [] es pair = omega (arith, ints)
gain_push (fs ∷ rest) es pair = omega (arith, ints, gain_push rest es pair)

-- ---- back to the history's start

-- a bag's count is that of the collection before its last change, and the change's difference
one_back : (bag : LimitedCollection) (es : List Entry) (pair : Pair) → IsBag bag → IsBag (with_held bag (changed bag.held (inverse_of es)))
    → CanGoBack bag (es ∷ [])
    → pos (count_in bag.held pair) ≡ pos (count_in (changed bag.held (inverse_of es)) pair) +ℤ gain_of (counts_at es (rank_of pair))
one_back bag es pair b before back =
    let prev = changed bag.held (inverse_of es) in
    gain_of_difference (count_in prev pair) (count_in bag.held pair)
    ∙ ap (λ found. pos (count_in prev pair) +ℤ gain_of found)
    (sym (counts_between prev bag.held pair before.rises b.rises)
    ∙ ap (λ ds. counts_at ds (rank_of pair)) (change_back bag es b back.0 back.2))

sum_back : (bag : LimitedCollection) (ess : List (List Entry)) (rest : List Collection) (pair : Pair) → IsBag bag → CanGoBack bag ess
    → pos (count_in bag.held pair)
    ≡ pos (count_in (get_or (earlier bag.held ess ++ bag.held ∷ rest) 0 []) pair) +ℤ gain_along (reverse ess) pair
sum_back bag [] rest pair b back = omega (arith, ints)
sum_back bag (es ∷ older) rest pair b back =
    let prev = with_held bag (changed bag.held (inverse_of es)) in
    let prev_is = made_is_bag bag (inverse_of es) b (inverse_keeps es back.0) (taken_from_none bag (inverse_of es) back.2) in
    let first = ap (λ hss. pos (count_in (get_or hss 0 []) pair))
    (append_assoc (earlier prev.held older) (prev.held ∷ []) (bag.held ∷ rest)) in
    let sum = ap (λ ess. gain_along ess pair) (reverse_cons es older) ∙ gain_push (reverse older) es pair in
    omega (
      arith,
      ints,
      one_back bag es pair b prev_is (back.0, back.1, back.2, tt),
      sum_back prev older (bag.held ∷ rest) pair prev_is back.3,
      first,
      sum,
    )

-- each count is that of the first collection and the differences of the changes that stand
pub counts_are_sums : (s : State) (pair : Pair) → IsStore s
    → pos (count_in s.bag.held pair) ≡ pos (count_in (first_collection s) pair) +ℤ gain_along s.done pair
counts_are_sums s pair st =
    sum_back s.bag (reverse s.done) (later s.bag.held (reverse s.undone)) pair st.bag st.can_go_back
    ∙ ap (λ ess. pos (count_in (first_collection s) pair) +ℤ gain_along ess pair) (reverse-reverse s.done)

-- ---- one change left out

left_out_at : (place : ℕ) (ess : List (List Entry)) (es : List Entry) (pair : Pair) → numbered (suc place) ess ≡ Some es
    → gain_along ess pair ≡ gain_along (without_numbered (suc place) ess) pair +ℤ gain_of (counts_at es (rank_of pair))
left_out_at place [] es pair found = cc
left_out_at zero (fs ∷ rest) es pair found =
    let same : fs ≡ es = cc in
    omega (arith, ints, ap (λ ds. gain_of (counts_at ds (rank_of pair))) same)
left_out_at (suc place) (fs ∷ rest) es pair found =
    let whole : gain_along (fs ∷ rest) pair ≡ gain_of (counts_at fs (rank_of pair)) +ℤ gain_along rest pair = refl in
    let others : gain_along (without_numbered (suc (suc place)) (fs ∷ rest)) pair
    ≡ gain_of (counts_at fs (rank_of pair)) +ℤ gain_along (without_numbered (suc place) rest) pair =
    refl in
    omega (arith, ints, whole, others, left_out_at place rest es pair found)

pub left_out : (number : ℕ) (ess : List (List Entry)) (es : List Entry) (pair : Pair) → numbered number ess ≡ Some es
    → gain_along ess pair ≡ gain_along (without_numbered number ess) pair +ℤ gain_of (counts_at es (rank_of pair))
left_out zero ess es pair found = cc
left_out (suc place) ess es pair found = left_out_at place ess es pair found

-- ---- an accepted revert

pub rises_back : (bag : LimitedCollection) (ess : List (List Entry)) → CanGoBack bag ess → All IsChangeList ess
rises_back bag [] back = All-nil IsChangeList
rises_back bag (es ∷ older) back =
    All-cons IsChangeList es older back.0 (rises_back (with_held bag (changed bag.held (inverse_of es))) older back.3)

pub changes_rise : (s : State) → IsStore s → All IsChangeList s.done
changes_rise s st = all_back_again IsChangeList s.done (rises_back s.bag (reverse s.done) st.can_go_back)

pub numbered_holds : (P : List Entry → Type 0) (number : ℕ) (ess : List (List Entry)) (es : List Entry) → All P ess
    → numbered number ess ≡ Some es → P es
numbered_holds P zero ess es all found = cc
numbered_holds P (suc place) ess es all found =
    subst P (get_or_from_slice_get ess place es es found) (All-get_or P ess place es (slice_get_within ess place es found) all)

pub found_of : (found : Option (List Entry)) → (elim found [ Some es ↦ false | None ↦ true ]) ≡ false
    → (es : List Entry) × (found ≡ Some es)
found_of (Some es) is = (es, refl)
found_of None is = cc

-- each count is then that of the first collection and the differences of the other changes that stood
pub change_left_out : (s : State) (number : ℕ) (pair : Pair) → IsStore s → edit_refusal s (Revert number) ≡ None
    → pos (count_in (edited (history_of s) (Revert number)) pair)
    ≡ pos (count_in (first_collection s) pair) +ℤ gain_along (without_numbered number s.done) pair
change_left_out s number pair st none =
    let parts = revert_accepted s number none in
    let found = found_of (numbered number s.done) parts.1 in
    let rises = numbered_holds IsChangeList number s.done found.0 (changes_rise s st) found.1 in
    let less = subtracts s.bag.held s.done number found.0 pair st.bag.rises rises found.1 parts.2 in
    ap (λ hs. pos (count_in hs pair)) (edited_held s (Revert number) (stand s st))
    ∙ omega (arith, ints, less, counts_are_sums s pair st, left_out number s.done found.0 pair found.1)

-- ---- the first collection

first_of_next : (n : ℕ) (hss ys : List Collection) → 0 < length hss → get_or (take (n + 1) hss ++ ys) 0 [] ≡ get_or hss 0 []
first_of_next n [] ys some = absurd (omega (arith, some))
first_of_next n (hs ∷ hss) ys some =
    let more : n + 1 ≡ suc n = omega arith in
    ap (λ k. get_or (take k (hs ∷ hss) ++ ys) 0 []) more

pub first_after_edit : (s : State) (edit : Edit) → IsStore s → first_collection (after_edit s edit) ≡ first_collection s
first_after_edit s edit st =
    let h = history_of s in
    ap (λ (h : History). get_or h.collections 0 []) (history_edited s edit st)
    ∙ first_of_next h.cursor h.collections (edited h edit ∷ []) (omega (arith, length_of_history s))

pub first_after_undo : (s : State) → IsStore s → s.done ≢ [] → first_collection (after_undo s) ≡ first_collection s
first_after_undo s st some = ap (λ (h : History). get_or h.collections 0 []) (history_after_undo s st some)

pub first_after_redo : (s : State) → IsStore s → s.undone ≢ [] → first_collection (after_redo s) ≡ first_collection s
first_after_redo s st some = ap (λ (h : History). get_or h.collections 0 []) (history_after_redo s st some)
