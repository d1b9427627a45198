-- Changes that a store is led by.
use Rattle.std.proofs.Common.{◌≡◌, ◌+◌, ◌<◌, ◌≤◌, nat_lt, ℕ, Bool, true, false, cond, List, [], ◌∷◌, All, length, map, reverse, Option, Some, None, refl, sym, ap, ap₂, ◌∙◌, subst, arith, ltb-false, le-ltb}
use Rattle.std.specs.Option.{option_map, option_or}
use Rattle.std.proofs.lemmas.List.{length-reverse}
use Rattle.std.proofs.lemmas.List.Elements.{All-cons, All-head, All-nil, All-tail}
use Rattle.s2ix_bag_pairs.specs.declared.pair.Entry.{Entry}
use Rattle.s2ix_bag_pairs.specs.Change.{changed, inverse_of, IsChangeList}
use Rattle.s2ix_bag_pairs.specs.Collection.{LimitedCollection, IsBag}
use Rattle.s2ix_bag_pairs.specs.Limits.{changes_limit}
use Rattle.s2ix_bag.specs.Replay.{Numbered, back_of, first_refusal, rewind_refusal, with_numbers}
use Rattle.s2ix_bag.proofs.Forth.{first_taken, rest_taken}
use Rattle.s2ix_bag.specs.declared.replay_error.ReplayError.{ReplayError}
use Rattle.s2ix_bag.specs.declared.replay_error.ReplayError.TheVariants as replay
use Rattle.s2ix_edit_plan.specs.State.{State, earlier, history_of, later}
use Rattle.s2ix_edit_plan.proofs.Edited.{length-earlier}
use Rattle.s2ix_edit_plan.specs.History.{History}
use Rattle.s2ix_edit_store.specs.declared.history_error.HistoryError.{HistoryError}
use Rattle.s2ix_edit_store.specs.declared.history_error.HistoryError.TheVariants.{JournalFull, NoChange}
use Rattle.s2ix_edit_store.specs.Given.{first_empty, first_empty_from, history_error, history_refusal, led_by, record_refusal}
use Rattle.s2ix_edit_store.specs.Shortened.{up_to_cursor}
use Rattle.s2ix_edit_store.specs.Steps.{with_held}
use Rattle.s2ix_edit_store.specs.Store.{CanGoBack, IsStore}
use Rattle.s2ix_edit_store.proofs.Along.{all_reversed, some_done}
use Rattle.s2ix_edit_store.proofs.AtCursor.{take_through}
use Rattle.s2ix_edit_store.proofs.Journals.{changes_in, changes_reversed, done_is_taken_back}

-- ---- changes without entries

pub past_some : (number : ℕ) (es : List Entry) (rest : List (List Entry)) → (length es ≡ 0 → ⊥)
    → first_empty_from number (es ∷ rest) ≡ first_empty_from (number + 1) rest
past_some number [] rest some = absurd (some refl)
past_some number (e ∷ es) rest some = refl

-- none is found if each has entries
pub none_empty : (number : ℕ) (changes : List (List Entry)) → All (λ es. 0 < length es) changes → first_empty_from number changes ≡ None
none_empty number [] all = refl
none_empty number (es ∷ rest) all =
    let some = All-head (λ (xs : List Entry). 0 < length xs) es rest all in
    past_some number es rest (λ none. omega (arith, some, none))
    ∙ none_empty (number + 1) rest (All-tail (λ (xs : List Entry). 0 < length xs) es rest all)

-- and each has entries if none is found
pub all_some : (number : ℕ) (changes : List (List Entry)) → first_empty_from number changes ≡ None → All (λ es. 0 < length es) changes
all_some number [] none = All-nil (λ (xs : List Entry). 0 < length xs)
all_some number ([] ∷ rest) none = cc
all_some number ((e ∷ es) ∷ rest) none =
    All-cons (λ (xs : List Entry). 0 < length xs) (e ∷ es) rest (omega arith) (all_some (number + 1) rest none)

-- ---- changes that can be taken back

abbrev pub HasEntries : List Entry → Type 0
HasEntries es = 0 < length es

-- the way back goes over changes that can be taken back
can_go_back : (bag : LimitedCollection) (cs : List Numbered) → All IsChangeList (changes_in cs) → All HasEntries (changes_in cs)
    → first_refusal bag (map back_of cs) ≡ None → CanGoBack bag (changes_in cs)
can_go_back bag [] rise some none = tt
can_go_back bag (c ∷ rest) rise some none = (
  All-head IsChangeList c.change (changes_in rest) rise,
  All-head HasEntries c.change (changes_in rest) some,
  first_taken bag (back_of c) (map back_of rest) none,
  can_go_back (with_held bag (changed bag.held (inverse_of c.change))) rest (All-tail IsChangeList c.change (changes_in rest) rise)
      (All-tail HasEntries c.change (changes_in rest) some) (rest_taken bag (back_of c) (map back_of rest) none),
)

turned_back : (bag : LimitedCollection) (changes : List (List Entry)) → All IsChangeList changes → All HasEntries changes
    → rewind_refusal bag changes ≡ None → CanGoBack bag (reverse changes)
turned_back bag changes rise some none =
    let Rises : List (List Entry) → Type 0 = λ ess. All IsChangeList ess in
    let Some : List (List Entry) → Type 0 = λ ess. All HasEntries ess in
    let Back : List (List Entry) → Type 0 = λ ess. CanGoBack bag ess in
    let turned = changes_reversed 1 changes in
    subst Back turned
    (can_go_back bag (reverse (with_numbers changes)) (subst Rises (sym turned) (all_reversed IsChangeList changes rise))
    (subst Some (sym turned) (all_reversed HasEntries changes some)) none)

-- ---- the refusal

-- the refusal for what can't be recorded, by what each test finds
abbrev unrecorded : Bool → Option ℕ → Option HistoryError
unrecorded full empty = cond full (Some JournalFull) (option_map NoChange empty)

none_of_two : (full : Bool) (empty : Option ℕ) → unrecorded full empty ≡ None → (full ≡ false) × (empty ≡ None)
none_of_two true empty none = cc
none_of_two false (Some number) none = cc
none_of_two false None none = (refl, refl)

-- changes that can be recorded are few enough, and each has entries
pub recordable_are_few : (room : ℕ) (changes : List (List Entry)) → record_refusal room changes ≡ None → length changes ≤ room
recordable_are_few room changes none =
    let full = (none_of_two (nat_lt room (length changes)) (first_empty changes) none).0 in
    omega (arith, ltb-false room (length changes) full)

pub recordable_have_entries : (room : ℕ) (changes : List (List Entry)) → record_refusal room changes ≡ None → All HasEntries changes
recordable_have_entries room changes none =
    all_some 1 changes (none_of_two (nat_lt room (length changes)) (first_empty changes) none).1

-- and such changes can be recorded
pub few_are_recordable : (room : ℕ) (changes : List (List Entry)) → length changes ≤ room → All HasEntries changes
    → record_refusal room changes ≡ None
few_are_recordable room changes within_limit some =
    ap₂ unrecorded (le-ltb room (length changes) within_limit) (none_empty 1 changes some)

-- nothing is refused if neither is
pub taken_whole : (first : Option HistoryError) (refused : Option ReplayError) → first ≡ None → refused ≡ None
    → option_or first (option_map history_error refused) ≡ None
taken_whole first refused none taken =
    ap₂ (λ (f : Option HistoryError) (r : Option ReplayError). option_or f (option_map history_error r)) none taken

pub neither_refused : (first : Option HistoryError) (refused : Option ReplayError)
    → option_or first (option_map history_error refused) ≡ None → (first ≡ None) × (refused ≡ None)
neither_refused (Some error) refused none = cc
neither_refused None (Some error) none = cc
neither_refused None None none = (refl, refl)

-- a store stands at a bag that takes its changes back
pub stands_led : (bag : LimitedCollection) (changes : List (List Entry)) → IsBag bag → All IsChangeList changes
    → history_refusal bag changes ≡ None → IsStore (led_by bag changes)
stands_led bag changes is_bag rise none =
    let room = changes_limit bag.limits in
    let both = neither_refused (record_refusal room changes) (rewind_refusal bag changes) none in
    let within_limit = recordable_are_few room changes both.0 in
    record {
      bag = is_bag;
      can_go_back = turned_back bag changes rise (recordable_have_entries room changes both.0) both.1;
      can_go_on = tt;
      room = omega (arith, within_limit);
    }

-- and those of a store are taken back
pub store_is_led : (s : State) → IsStore s → history_refusal s.bag s.done ≡ None
store_is_led s st =
    let within_limit = st.room in
    taken_whole (record_refusal (changes_limit s.bag.limits) s.done) (rewind_refusal s.bag s.done)
    (few_are_recordable (changes_limit s.bag.limits) s.done (omega (arith, within_limit)) (some_done s st))
    (done_is_taken_back s st)

-- ---- the error that tells it

-- ---- the history

pub history_led : (s : State) → history_of (led_by s.bag s.done) ≡ up_to_cursor (history_of s)
history_led s =
    let hs = s.bag.held in
    let before = earlier hs (reverse s.done) in
    ap (λ collections. let h : History = record { collections = collections; cursor = length s.done } in h)
    (sym (take_through before (later hs (reverse s.undone)) hs (length s.done)
    (length-earlier hs (reverse s.done) ∙ length-reverse s.done)))
