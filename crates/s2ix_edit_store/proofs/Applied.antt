-- Changes that are given to a store, done by it.
use Rattle.std.proofs.Common.{◌≡◌, ◌+◌, ◌<◌, ◌≤◌, ◌-◌, ℕ, List, [], ◌∷◌, ◌++◌, All, drop, length, reverse, None, refl, sym, ap, ap₂, ◌∙◌, subst, arith}
use Rattle.std.proofs.lemmas.Bool.{cond-true, eq-eqb}
use Rattle.std.proofs.lemmas.List.{append_assoc, append-nil, length-append, length-drop, reverse-append}
use Rattle.std.proofs.lemmas.List.Elements.{All-cons, All-head, All-nil, All-tail}
use Rattle.s2ix_bag_pairs.specs.declared.limits.Limits.{Limits}
use Rattle.s2ix_bag_pairs.specs.declared.pair.Entry.{Entry}
use Rattle.s2ix_bag_lists.specs.Apply.{apply_refusal}
use Rattle.s2ix_bag_pairs.specs.Change.{change_between, changed, differences, IsChangeList, joined}
use Rattle.s2ix_bag_pairs.specs.Collection.{Collection, LimitedCollection, IsBag, count_in}
use Rattle.s2ix_bag_pairs.specs.Limits.{changes_limit}
use Rattle.s2ix_bag_lists.proofs.Refusals.{made_is_bag, taken_from_none}
use Rattle.s2ix_bag.specs.Replay.{after_change, after_changes, first_refusal, numbered_from, replay_refusal, replayed, rewound, way_back, with_numbers}
use Rattle.s2ix_bag.proofs.Back.{replay_of_rewind, replayed_is_bag}
use Rattle.s2ix_bag.proofs.Forth.{first_taken, limits_stay, refusal_after, rest_taken}
use Rattle.s2ix_bag_pairs.proofs.Differences.{changed_between}
use Rattle.s2ix_edit_plan.specs.declared.edit.Edit.{Edit}
use Rattle.s2ix_edit_plan.specs.Edit.{edited}
use Rattle.s2ix_edit_plan.specs.Refusals.{edit_refusal}
use Rattle.s2ix_edit_plan.specs.State.{State, change_of, history_of}
use Rattle.s2ix_edit_plan.proofs.Edited.{held_edited_is_collection}
use Rattle.s2ix_edit_store.specs.Given.{after_apply, apply_size, given_refusal, record_refusal}
use Rattle.s2ix_edit_store.specs.Shortened.{steps_before}
use Rattle.s2ix_edit_store.specs.Standing.{first_collection}
use Rattle.s2ix_edit_store.specs.Steps.{after_edit, faces_of, with_held}
use Rattle.s2ix_edit_store.specs.Store.{CanGoBack, IsStore}
use Rattle.s2ix_edit_store.proofs.Along.{all_back_again, some_back}
use Rattle.s2ix_edit_store.proofs.AtCursor.{back_over, goes_back}
use Rattle.s2ix_edit_store.proofs.Histories.{HasEntries, few_are_recordable, neither_refused, recordable_are_few, recordable_have_entries, taken_whole}
use Rattle.s2ix_edit_store.proofs.Between.{between_taken}
use Rattle.s2ix_edit_store.proofs.Joined.{before_last, first_before_all, last_goes_back, last_taken_back, rewound_before}
use Rattle.s2ix_edit_store.proofs.Kept.{edit_keeps}
use Rattle.s2ix_edit_store.proofs.Shortened.{held_before}
use Rattle.s2ix_edit_store.proofs.Standing.{rises_back}
use Rattle.s2ix_edit_store.proofs.Taken.{changed_back, not_mismatched}

-- the bag after changes can go back over them, and on as before
back_over_all : (bag : LimitedCollection) (done changes : List (List Entry)) (number : ℕ) → IsBag bag → CanGoBack bag (reverse done)
    → All IsChangeList changes → All HasEntries changes → first_refusal bag (numbered_from number changes) ≡ None
    → CanGoBack (after_changes bag (numbered_from number changes)) (reverse (done ++ changes))
back_over_all bag done [] number b back rise some none =
    let Back : List (List Entry) → Type 0 = λ ess. CanGoBack bag (reverse ess) in
    subst Back (sym (append-nil done)) back
back_over_all bag done (es ∷ rest) number b back rise some none =
    let rises = All-head IsChangeList es rest rise in
    let taken = first_taken bag (record { number = number; change = es }) (numbered_from (number + 1) rest) none in
    let Back : List (List Entry) → Type 0 =
    λ ess. CanGoBack (after_changes (after_change bag es) (numbered_from (number + 1) rest)) (reverse ess) in
    subst Back (append_assoc done (es ∷ []) rest)
    (back_over_all (after_change bag es) (done ++ es ∷ []) rest (number + 1) (made_is_bag bag es b rises (taken_from_none bag es taken))
    (back_over bag done es b back rises (All-head HasEntries es rest some) taken)
    (All-tail IsChangeList es rest rise) (All-tail HasEntries es rest some)
    (rest_taken bag (record { number = number; change = es }) (numbered_from (number + 1) rest) none))

-- a store that does some changes
abbrev pub given_done : State → List (List Entry) → State
given_done s changes = record {
  bag = replayed s.bag changes;
  done = s.done ++ changes;
  undone = [];
  faces_rebuilt = faces_of (change_between s.bag.held (replayed s.bag changes).held);
}

pub apply_some : (s : State) (changes : List (List Entry)) → (length changes ≡ 0 → ⊥) → given_done s changes ≡ after_apply s changes
apply_some s [] some = absurd (some refl)
apply_some s (es ∷ rest) some = refl

-- what it does by parts
pub given_parts : (s : State) (changes : List (List Entry)) (bag : LimitedCollection) (done undone : List (List Entry)) (faces : ℕ)
    → bag ≡ replayed s.bag changes → done ≡ s.done ++ changes → undone ≡ [] → faces ≡ faces_of (change_between s.bag.held bag.held)
    → ◌≡◌ {A = State} (record { bag = bag; done = done; undone = undone; faces_rebuilt = faces }) (given_done s changes)
given_parts s changes bag done undone faces bag_is done_is undone_is faces_is =
    ap₂ (λ (x : LimitedCollection) (n : ℕ).
    let t : State = record { bag = x; done = done; undone = undone; faces_rebuilt = n } in t)
    bag_is (faces_is ∙ ap (λ (x : LimitedCollection). faces_of (change_between s.bag.held x.held)) bag_is)
    ∙ ap₂ (λ (x y : List (List Entry)).
    let t : State =
    record {
      bag = replayed s.bag changes;
      done = x;
      undone = y;
      faces_rebuilt = faces_of (change_between s.bag.held (replayed s.bag changes).held);
    } in
    t)
    done_is undone_is

pub given_keeps : (s : State) (changes : List (List Entry)) → IsStore s → All IsChangeList changes → given_refusal s changes ≡ None
    → IsStore (given_done s changes)
given_keeps s changes st rise none =
    let room = changes_limit s.bag.limits - length s.done in
    let both = neither_refused (record_refusal room changes) (replay_refusal s.bag changes) none in
    let within_limit = recordable_are_few room changes both.0 in
    let within = st.room in
    let limits = ap changes_limit (limits_stay s.bag (with_numbers changes)) in
    record {
      bag = replayed_is_bag s.bag changes st.bag rise both.1;
      can_go_back = back_over_all s.bag s.done changes 1 st.bag st.can_go_back rise (recordable_have_entries room changes both.0) both.1;
      can_go_on = tt;
      room = omega (arith, within_limit, within, limits, length-append s.done changes);
    }

pub apply_keeps : (s : State) (changes : List (List Entry)) → IsStore s → All IsChangeList changes → given_refusal s changes ≡ None
    → IsStore (after_apply s changes)
apply_keeps s [] st rise none = st
apply_keeps s (es ∷ rest) st rise none = given_keeps s (es ∷ rest) st rise none

pub limits_after_apply : (s : State) (changes : List (List Entry)) → (after_apply s changes).bag.limits ≡ s.bag.limits
limits_after_apply s [] = refl
limits_after_apply s (es ∷ rest) = limits_stay s.bag (with_numbers (es ∷ rest))

-- the bag is that to which replay leads
bag_after_apply : (s : State) (changes : List (List Entry)) → (after_apply s changes).bag ≡ replayed s.bag changes
bag_after_apply s [] = refl
bag_after_apply s (es ∷ rest) = refl

-- no changes change no pair, and are never refused
same_differences : (hs ks : Collection) → differences hs hs ks ≡ []
same_differences hs [] = refl
same_differences hs (k ∷ ks) = cond-true _ _ _ (eq-eqb (count_in hs k.pair) (count_in hs k.pair) refl) ∙ same_differences hs ks

pub none_sized : (s : State) (changes : List (List Entry)) → length changes ≡ 0 → 0 ≡ apply_size s changes
none_sized s [] none = sym (ap length (same_differences s.bag.held (joined s.bag.held s.bag.held)))
none_sized s (es ∷ rest) none = absurd (omega (arith, none))

-- the change between the two bags rebuilds the table
pub rebuilds : (s : State) (changes : List (List Entry)) (bag : LimitedCollection) (es : List Entry) (pairs : Collection) → IsStore s
    → All IsChangeList changes → replay_refusal s.bag changes ≡ None → bag ≡ replayed s.bag changes
    → es ≡ change_between s.bag.held bag.held → pairs ≡ s.bag.held → changed pairs es ≡ bag.held
rebuilds s changes bag es pairs st rise none bag_is es_is pairs_are =
    let Fits : LimitedCollection → Type 0 = λ b. IsBag b in
    let made = subst Fits (sym bag_is) (replayed_is_bag s.bag changes st.bag rise none) in
    ap₂ changed pairs_are es_is ∙ changed_between s.bag.held bag.held st.bag.rises made.rises

-- ---- the first collection

-- it is before the changes that are done too
first_over : (bag : LimitedCollection) (done changes : List (List Entry)) (number : ℕ) → IsBag bag → All IsChangeList changes
    → first_refusal bag (numbered_from number changes) ≡ None
    → held_before (after_changes bag (numbered_from number changes)).held (reverse (done ++ changes)) ≡ held_before bag.held (reverse done)
first_over bag done [] number b rise none = ap (λ ess. held_before bag.held (reverse ess)) (append-nil done)
first_over bag done (es ∷ rest) number b rise none =
    let rises = All-head IsChangeList es rest rise in
    let taken = first_taken bag (record { number = number; change = es }) (numbered_from (number + 1) rest) none in
    ap (λ ess. held_before (after_changes (after_change bag es) (numbered_from (number + 1) rest)).held (reverse ess))
    (sym (append_assoc done (es ∷ []) rest))
    ∙ first_over (after_change bag es) (done ++ es ∷ []) rest (number + 1)
    (made_is_bag bag es b rises (taken_from_none bag es taken)) (All-tail IsChangeList es rest rise)
    (rest_taken bag (record { number = number; change = es }) (numbered_from (number + 1) rest) none)
    ∙ ap (held_before (changed bag.held es)) (reverse-append done (es ∷ []))
    ∙ ap (λ h. held_before h (reverse done)) (changed_back bag es b.rises rises (not_mismatched bag es taken))

pub first_after_apply : (s : State) (changes : List (List Entry)) → IsStore s → All IsChangeList changes → given_refusal s changes ≡ None
    → first_collection (after_apply s changes) ≡ first_collection s
first_after_apply s [] st rise none = refl
first_after_apply s (es ∷ rest) st rise none =
    let room = changes_limit s.bag.limits - length s.done in
    let both = neither_refused (record_refusal room (es ∷ rest)) (replay_refusal s.bag (es ∷ rest)) none in
    first_before_all (after_apply s (es ∷ rest))
    ∙ first_over s.bag s.done (es ∷ rest) 1 st.bag rise both.1
    ∙ sym (first_before_all s)

-- ---- one store follows another

-- it takes the change that an edit of a store at the same bag records
pub edit_not_refused : (s other : State) (edit : Edit) → IsStore other → s.bag ≡ other.bag → edit_refusal other edit ≡ None
    → length s.done < changes_limit s.bag.limits → given_refusal s (change_of other edit ∷ []) ≡ None
edit_not_refused s other edit st same accepted some_room =
    let es = change_of other edit in
    let room = changes_limit s.bag.limits - length s.done in
    let next = edit_keeps other edit st accepted in
    let some = (goes_back (after_edit other edit) other.done es next refl).1 in
    let taken : apply_refusal s.bag es ≡ None =
    ap (λ bag. apply_refusal bag es) same ∙ between_taken other.bag (edited (history_of other) edit) st.bag next.bag in
    taken_whole (record_refusal room (es ∷ [])) (replay_refusal s.bag (es ∷ []))
    (few_are_recordable room (es ∷ []) (omega (arith, some_room)) (All-cons HasEntries es [] some (All-nil HasEntries)))
    (refusal_after s.bag (record { number = 1; change = es }) [] taken)

-- and comes to the other's bag
pub edit_followed : (s other : State) (edit : Edit) → IsStore other → s.bag ≡ other.bag
    → (after_apply s (change_of other edit ∷ [])).bag ≡ (after_edit other edit).bag
edit_followed s other edit st same =
    ap (λ bag. replayed bag (change_of other edit ∷ [])) same
    ∙ ap (λ hs. with_held other.bag hs)
    (changed_between other.bag.held (edited (history_of other) edit) st.bag.rises (held_edited_is_collection other edit st.bag.rises))

-- each change that can be taken back rises
made_bag : (bag other : LimitedCollection) → bag.limits ≡ other.limits → bag.held ≡ other.held → bag ≡ other
made_bag bag other limits held =
    ap₂ (λ (l : Limits) (h : Collection). let b : LimitedCollection = record { limits = l; held = h } in b) limits held

-- the bag so many changes ago is that before the last of them
before_by_rewind : (other : State) (number : ℕ)
    → with_held other.bag (steps_before number (history_of other)) ≡ rewound other.bag (drop (length other.done - number) other.done)
before_by_rewind other number =
    let changes = drop (length other.done - number) other.done in
    made_bag (with_held other.bag (steps_before number (history_of other))) (rewound other.bag changes)
    (sym (limits_stay other.bag (way_back (with_numbers changes))))
    (before_last other number ∙ sym (rewound_before other.bag changes))

-- from there a store comes to the other's bag by the changes since
pub changes_followed : (s other : State) (number : ℕ) → IsStore other
    → s.bag ≡ with_held other.bag (steps_before number (history_of other)) → length s.done + number ≤ changes_limit s.bag.limits
    → (given_refusal s (drop (length other.done - number) other.done) ≡ None)
    × ((after_apply s (drop (length other.done - number) other.done)).bag ≡ other.bag)
changes_followed s other number st same within_limit =
    let changes = drop (length other.done - number) other.done in
    let back = last_goes_back other number st in
    let room = changes_limit s.bag.limits - length s.done in
    let before = same ∙ before_by_rewind other number in
    let home = replay_of_rewind other.bag changes st.bag (all_back_again IsChangeList changes (rises_back other.bag (reverse changes) back))
    (last_taken_back other number st) in (
      taken_whole (record_refusal room changes) (replay_refusal s.bag changes)
          (few_are_recordable room changes (omega (arith, within_limit, length-drop (length other.done - number) other.done))
          (all_back_again HasEntries changes (some_back other.bag (reverse changes) back)))
          (ap (λ bag. replay_refusal bag changes) before ∙ home.0),
      bag_after_apply s changes ∙ ap (λ bag. replayed bag changes) before ∙ home.1,
    )
