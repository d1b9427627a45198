-- The last changes of a store joined to one.
use Rattle.std.proofs.Common.{◌≡◌, ◌+◌, ◌-◌, ◌<◌, ◌≤◌, ◌==◌, ℕ, List, [], ◌∷◌, ◌++◌, cond, get_or, length, map, take, drop, reverse, None, refl, sym, ap, ap₂, ◌∙◌, subst, ⊎_elim, arith}
use Rattle.std.proofs.lemmas.Bool.{cases_lt, cond-false, ne_eqb}
use Rattle.std.proofs.Math.Seq.{take-append-add, take-append_seam}
use Rattle.std.proofs.lemmas.List.{append_assoc, append-nil, drop_all, get_or-drop, length-append, length-drop, reverse-append, take-append-drop, take_all}
use Rattle.s2ix_bag_pairs.specs.declared.pair.Entry.{Entry}
use Rattle.s2ix_bag_lists.specs.Apply.{apply_refusal}
use Rattle.s2ix_bag_lists.proofs.Refusals.{made_is_bag, taken_from_none}
use Rattle.s2ix_bag_pairs.specs.Change.{change_between, changed, inverse_of, joined}
use Rattle.s2ix_bag_pairs.specs.Collection.{Collection, LimitedCollection, IsBag, IsCollection}
use Rattle.s2ix_bag_pairs.proofs.Differences.{between_is_change, changed_between}
use Rattle.s2ix_bag_pairs.proofs.Inverse.{changed_inverse_between, inverse_between, inverse_keeps}
use Rattle.s2ix_bag.specs.Replay.{Numbered, after_changes, back_of, rewind_refusal, rewound, with_numbers}
use Rattle.s2ix_edit_plan.specs.History.{History}
use Rattle.s2ix_edit_plan.specs.State.{State, earlier, history_of, later}
use Rattle.s2ix_edit_plan.proofs.Edited.{held_at_cursor}
use Rattle.s2ix_edit_plan.proofs.Plans.{between_changed}
use Rattle.s2ix_edit_store.specs.Shortened.{steps_before, with_joined, without_from}
use Rattle.s2ix_edit_store.specs.Standing.{first_collection}
use Rattle.s2ix_edit_store.specs.Steps.{after_join, after_undo, joined_last, recorded_alone, with_held}
use Rattle.s2ix_edit_store.specs.Store.{CanGoBack, IsStore}
use Rattle.s2ix_edit_store.proofs.Between.{alone_few, between_taken}
use Rattle.s2ix_edit_store.proofs.Journals.{changes_in, changes_reversed, taken_back_over}
use Rattle.s2ix_edit_store.proofs.Undone.{front_of, undo_of_last}
use Rattle.s2ix_edit_store.proofs.Shortened.{collections_at, collections_from, held_before, length_before, length_of_older, newer_back, older_back, reverse_parts}

-- ---- the collection before the last changes

-- the first of the earlier collections is the one before all of the changes
first_earlier : (hs : Collection) (newer : List (List Entry)) (rest : List Collection)
    → get_or (earlier hs newer ++ hs ∷ rest) 0 [] ≡ held_before hs newer
first_earlier hs [] rest = refl
first_earlier hs (es ∷ older) rest =
    let prev = changed hs (inverse_of es) in
    ap (λ hss. get_or hss 0 []) (append_assoc (earlier prev older) (prev ∷ []) (hs ∷ rest)) ∙ first_earlier prev older (hs ∷ rest)

pub before_last : (s : State) (number : ℕ)
    → steps_before number (history_of s) ≡ held_before s.bag.held (reverse (drop (length s.done - number) s.done))
before_last s number =
    let place = length s.done - number in
    let newer = reverse (drop place s.done) in
    let start : place ≡ place + 0 = omega arith in
    ap (λ n. get_or (history_of s).collections n []) start
    ∙ sym (get_or-drop place (history_of s).collections 0 [])
    ∙ ap (λ hss. get_or hss 0 []) (collections_from s place (omega arith))
    ∙ first_earlier s.bag.held newer (later s.bag.held (reverse s.undone))

-- it is the one to which rewind leads
rewound_over : (bag : LimitedCollection) (cs : List Numbered)
    → (after_changes bag (map back_of cs)).held ≡ held_before bag.held (changes_in cs)
rewound_over bag [] = refl
rewound_over bag (c ∷ rest) = rewound_over (with_held bag (changed bag.held (inverse_of c.change))) rest

pub rewound_before : (bag : LimitedCollection) (changes : List (List Entry)) → (rewound bag changes).held ≡ held_before bag.held (reverse changes)
rewound_before bag changes =
    rewound_over bag (reverse (with_numbers changes)) ∙ ap (held_before bag.held) (changes_reversed 1 changes)

-- so the change from there is the joined one
pub joined_by_rewind : (s : State) (number : ℕ)
    → change_between (rewound s.bag (drop (length s.done - number) s.done)).held s.bag.held ≡ joined_last s number
joined_by_rewind s number =
    ap (λ old. change_between old s.bag.held)
    (rewound_before s.bag (drop (length s.done - number) s.done) ∙ sym (before_last s number))

-- a store can go back over its last changes
pub last_goes_back : (s : State) (number : ℕ) → IsStore s → CanGoBack s.bag (reverse (drop (length s.done - number) s.done))
last_goes_back s number st =
    let place = length s.done - number in
    let Back : List (List Entry) → Type 0 = λ ess. CanGoBack s.bag ess in
    newer_back s.bag (reverse (drop place s.done)) (reverse (take place s.done)) (subst Back (reverse_parts s.done place) st.can_go_back)

pub last_taken_back : (s : State) (number : ℕ) → IsStore s → rewind_refusal s.bag (drop (length s.done - number) s.done) ≡ None
last_taken_back s number st = taken_back_over s.bag (drop (length s.done - number) s.done) (last_goes_back s number st)

-- it is within the limits
before_is_bag : (bag : LimitedCollection) (newer : List (List Entry)) → IsBag bag → CanGoBack bag newer
    → IsBag (with_held bag (held_before bag.held newer))
before_is_bag bag [] b back = b
before_is_bag bag (es ∷ older) b back =
    before_is_bag (with_held bag (changed bag.held (inverse_of es))) older
    (made_is_bag bag (inverse_of es) b (inverse_keeps es back.0) (taken_from_none bag (inverse_of es) back.2)) back.3

-- ---- a change between two bags

-- a bag can go back over the change from another
back_over_between : (bag : LimitedCollection) (old : Collection) (older : List (List Entry)) → IsBag bag → IsBag (with_held bag old)
    → CanGoBack (with_held bag old) older → 0 < length (change_between old bag.held)
    → CanGoBack bag (change_between old bag.held ∷ older)
back_over_between bag old older b old_is back some =
    let es = change_between old bag.held in
    let Older : Collection → Type 0 = λ hs. CanGoBack (with_held bag hs) older in (
      between_is_change old bag.held old_is.rises,
      some,
      ap (apply_refusal bag) (inverse_between old bag.held old_is.rises b.rises) ∙ between_taken bag old b old_is,
      subst Older (sym (changed_inverse_between old bag.held old_is.rises b.rises)) back,
    )

-- two collections with nothing between them are one
same_between : (old new : Collection) → IsCollection old → IsCollection new → change_between old new ≡ [] → old ≡ new
same_between old new old_is new_is none = sym (ap (changed old) none) ∙ changed_between old new old_is new_is

-- ---- the joined change in place of the last

back_over_alone : (bag : LimitedCollection) (older : List (List Entry)) (es : List Entry)
    → (0 < length es → CanGoBack bag (es ∷ reverse older)) → (es ≡ [] → CanGoBack bag (reverse older))
    → CanGoBack bag (reverse (older ++ recorded_alone es))
back_over_alone bag older [] some none =
    let Back : List (List Entry) → Type 0 = λ ess. CanGoBack bag (reverse ess) in
    subst Back (sym (append-nil older)) (none refl)
back_over_alone bag older (e ∷ es) some none =
    let Back : List (List Entry) → Type 0 = λ ess. CanGoBack bag ess in
    subst Back (sym (reverse-append older ((e ∷ es) ∷ []))) (some (omega arith))

-- nothing is joined if no change is
none_joined : (s : State) (number : ℕ) → IsStore s → length s.done ≤ length s.done - number → joined_last s number ≡ []
none_joined s number st none =
    let hs = s.bag.held in
    let whole = drop_all (length s.done - number) s.done none in
    let same : steps_before number (history_of s) ≡ hs =
    before_last s number ∙ ap (λ ess. held_before hs (reverse ess)) whole in
    ap (λ old. change_between old hs) same ∙ between_changed s.bag [] st.bag.rises tt refl

-- so there is a change to put it in the place of
pub some_place : (s : State) (number : ℕ) → IsStore s → 0 < length (joined_last s number) → length s.done - number < length s.done
some_place s number st some =
    ⊎_elim
    (λ lt. lt)
    (λ le. let none = ap length (none_joined s number st le) in absurd (omega (arith, some, none)))
    (cases_lt (length s.done - number) (length s.done))

room_joined : (s : State) (number : ℕ) → IsStore s
    → length (take (length s.done - number) s.done ++ recorded_alone (joined_last s number)) ≤ length s.done
room_joined s number st =
    let place = length s.done - number in
    let es = joined_last s number in
    let long = length-append (take place s.done) (recorded_alone es) in
    let all = ap length (take-append-drop place s.done) in
    let parts = length-append (take place s.done) (drop place s.done) in
    let rest = length-drop place s.done in
    ⊎_elim
    (λ lt. omega (arith, lt, long, all, parts, rest, alone_few es))
    (λ le.
    let none = ap (λ xs. length (recorded_alone xs)) (none_joined s number st le) in
    omega (arith, long, none, all, parts))
    (cases_lt place (length s.done))

-- the collection before the last changes is within the limits
pub last_is_bag : (s : State) (number : ℕ) → IsStore s → IsBag (with_held s.bag (steps_before number (history_of s)))
last_is_bag s number st =
    let Fits : Collection → Type 0 = λ hs. IsBag (with_held s.bag hs) in
    subst Fits (sym (before_last s number))
    (before_is_bag s.bag (reverse (drop (length s.done - number) s.done)) st.bag (last_goes_back s number st))

older_from : (s : State) (number : ℕ) → IsStore s
    → CanGoBack (with_held s.bag (steps_before number (history_of s))) (reverse (take (length s.done - number) s.done))
older_from s number st =
    let place = length s.done - number in
    let older = reverse (take place s.done) in
    let From : Collection → Type 0 = λ hs. CanGoBack (with_held s.bag hs) older in
    let Back : List (List Entry) → Type 0 = λ ess. CanGoBack s.bag ess in
    subst From (sym (before_last s number))
    (older_back s.bag (reverse (drop place s.done)) older (subst Back (reverse_parts s.done place) st.can_go_back))

pub join_keeps : (s : State) (number : ℕ) → IsStore s → IsStore (after_join s number)
join_keeps s number st =
    let old = steps_before number (history_of s) in
    let front = take (length s.done - number) s.done in
    let old_is = last_is_bag s number st in
    let older = older_from s number st in
    let From : Collection → Type 0 = λ hs. CanGoBack (with_held s.bag hs) (reverse front) in
    let within_limit = st.room in
    record {
      bag = st.bag;
      can_go_back = back_over_alone s.bag front (joined_last s number)
          (λ some. back_over_between s.bag old (reverse front) st.bag old_is older some)
          (λ none. subst From (same_between old s.bag.held old_is.rises st.bag.rises none) older);
      can_go_on = st.can_go_on;
      room = omega (arith, within_limit, room_joined s number st);
    }

-- ---- the history

-- the first of the earlier collections alone
first_alone : (hs : Collection) (newer : List (List Entry)) (rest : List Collection)
    → take 1 (earlier hs newer ++ hs ∷ rest) ≡ held_before hs newer ∷ []
first_alone hs [] rest = refl
first_alone hs (es ∷ older) rest =
    let prev = changed hs (inverse_of es) in
    ap (take 1) (append_assoc (earlier prev older) (prev ∷ []) (hs ∷ rest)) ∙ first_alone prev older (hs ∷ rest)

-- the collections before a place
before_place : (s : State) (place : ℕ) → place ≤ length s.done
    → take place (history_of s).collections
    ≡ earlier (held_before s.bag.held (reverse (drop place s.done))) (reverse (take place s.done))
before_place s place within =
    let hs = s.bag.held in
    let newer = reverse (drop place s.done) in
    let before = earlier (held_before hs newer) (reverse (take place s.done)) in
    let after = earlier hs newer ++ hs ∷ later hs (reverse s.undone) in
    ap (take place) (collections_at s place)
    ∙ ap (λ n. take n (before ++ after)) (sym (length_before s place within))
    ∙ take-append_seam before after

-- and the one there too
through_place : (s : State) (place : ℕ) → place ≤ length s.done
    → take (place + 1) (history_of s).collections
    ≡ earlier (held_before s.bag.held (reverse (drop place s.done))) (reverse (take place s.done))
    ++ held_before s.bag.held (reverse (drop place s.done)) ∷ []
through_place s place within =
    let hs = s.bag.held in
    let newer = reverse (drop place s.done) in
    let before = earlier (held_before hs newer) (reverse (take place s.done)) in
    let on = later hs (reverse s.undone) in
    ap (take (place + 1)) (collections_at s place)
    ∙ ap (λ n. take (n + 1) (before ++ (earlier hs newer ++ hs ∷ on))) (sym (length_before s place within))
    ∙ take-append-add before (earlier hs newer ++ hs ∷ on) 1
    ∙ ap (λ hss. before ++ hss) (first_alone hs newer on)

-- those from the cursor on
from_cursor : (s : State) → drop (length s.done) (history_of s).collections ≡ s.bag.held ∷ later s.bag.held (reverse s.undone)
from_cursor s =
    collections_from s (length s.done) (omega arith)
    ∙ ap (λ ess. earlier s.bag.held (reverse ess) ++ s.bag.held ∷ later s.bag.held (reverse s.undone))
    (drop_all (length s.done) s.done (omega arith))

-- a store with a change in the place of those from a place on
abbrev replaced : State → ℕ → List Entry → State
replaced s place es = record {
  bag = s.bag;
  done = take place s.done ++ recorded_alone es;
  undone = s.undone;
  faces_rebuilt = s.faces_rebuilt;
}

made_history : (collections others : List Collection) (cursor other : ℕ) → collections ≡ others → cursor ≡ other
    → ◌≡◌ {A = History} (record { collections = collections; cursor = cursor }) (record { collections = others; cursor = other })
made_history collections others cursor other same place =
    ap₂ (λ (hss : List Collection) (k : ℕ). let h : History = record { collections = hss; cursor = k } in h) same place

-- it has no collection from the place to the cursor if nothing changed between them
none_replaced : (s : State) (place : ℕ) → place ≤ length s.done → held_before s.bag.held (reverse (drop place s.done)) ≡ s.bag.held
    → history_of (replaced s place []) ≡ without_from place (history_of s)
none_replaced s place within same =
    let hs = s.bag.held in
    let front = take place s.done in
    let on = hs ∷ later hs (reverse s.undone) in
    made_history (earlier hs (reverse (front ++ [])) ++ on)
    (take place (history_of s).collections ++ drop (length s.done) (history_of s).collections)
    (length (front ++ [])) place
    (ap (λ ess. earlier hs (reverse ess) ++ on) (append-nil front)
    ∙ ap (λ old. earlier old (reverse front) ++ on) (sym same)
    ∙ ap₂ (λ (hss rest : List Collection). hss ++ rest) (sym (before_place s place within)) (sym (from_cursor s)))
    (ap length (append-nil front) ∙ length_of_older s.done place within)

-- and none after the place if something did
some_replaced : (s : State) (place : ℕ) (es : List Entry) → place ≤ length s.done
    → changed s.bag.held (inverse_of es) ≡ held_before s.bag.held (reverse (drop place s.done)) → recorded_alone es ≡ es ∷ []
    → history_of (replaced s place es) ≡ without_from (place + 1) (history_of s)
some_replaced s place es within same some =
    let hs = s.bag.held in
    let front = take place s.done in
    let older = reverse front in
    let on = hs ∷ later hs (reverse s.undone) in
    let alone = length-append front (es ∷ []) in
    let short = length_of_older s.done place within in
    made_history (earlier hs (reverse (front ++ recorded_alone es)) ++ on)
    (take (place + 1) (history_of s).collections ++ drop (length s.done) (history_of s).collections)
    (length (front ++ recorded_alone es)) (place + 1)
    (ap (λ ess. earlier hs (reverse (front ++ ess)) ++ on) some
    ∙ ap (λ ess. earlier hs ess ++ on) (reverse-append front (es ∷ []))
    ∙ ap (λ old. (earlier old older ++ old ∷ []) ++ on) same
    ∙ ap₂ (λ (hss rest : List Collection). hss ++ rest) (sym (through_place s place within)) (sym (from_cursor s)))
    (ap (λ ess. length (front ++ ess)) some ∙ (omega (arith, alone, short)))

-- as the number of entries tells
by_entries : (s : State) (place : ℕ) (es : List Entry) → place ≤ length s.done
    → (es ≡ [] → held_before s.bag.held (reverse (drop place s.done)) ≡ s.bag.held)
    → changed s.bag.held (inverse_of es) ≡ held_before s.bag.held (reverse (drop place s.done))
    → history_of (replaced s place es)
    ≡ cond (length es == 0) (without_from place (history_of s)) (without_from (place + 1) (history_of s))
by_entries s place [] within none same = none_replaced s place within (none refl)
by_entries s place (e ∷ es) within none same =
    some_replaced s place (e ∷ es) within same refl
    ∙ sym (cond-false _ (without_from place (history_of s)) (without_from (place + 1) (history_of s))
    (ne_eqb (length (e ∷ es)) 0 (λ none_long. omega (arith, none_long))))

pub history_after_join : (s : State) (number : ℕ) → IsStore s → history_of (after_join s number) ≡ with_joined number (history_of s)
history_after_join s number st =
    let hs = s.bag.held in
    let place = length s.done - number in
    let old = steps_before number (history_of s) in
    let old_is = last_is_bag s number st in
    let was = before_last s number in
    by_entries s place (joined_last s number) (omega arith)
    (λ none. sym was ∙ same_between old hs old_is.rises st.bag.rises none)
    (changed_inverse_between old hs old_is.rises st.bag.rises ∙ was)
    ∙ ap (λ (now : Collection).
    cond (length (change_between old now) == 0) (without_from place (history_of s)) (without_from (place + 1) (history_of s)))
    (sym (held_at_cursor s))

-- ---- the first collection

pub held_before-append : (hs : Collection) (newer older : List (List Entry))
    → held_before hs (newer ++ older) ≡ held_before (held_before hs newer) older
held_before-append hs [] older = refl
held_before-append hs (es ∷ newer) older = held_before-append (changed hs (inverse_of es)) newer older

-- a history starts before all changes that were done
pub first_before_all : (s : State) → first_collection s ≡ held_before s.bag.held (reverse s.done)
first_before_all s = first_earlier s.bag.held (reverse s.done) (later s.bag.held (reverse s.undone))

before_alone : (hs old : Collection) (front : List (List Entry)) (es : List Entry) → (es ≡ [] → hs ≡ old)
    → changed hs (inverse_of es) ≡ old → held_before hs (reverse (front ++ recorded_alone es)) ≡ held_before old (reverse front)
before_alone hs old front [] none same =
    ap (λ ess. held_before hs (reverse ess)) (append-nil front) ∙ ap (λ h. held_before h (reverse front)) (none refl)
before_alone hs old front (e ∷ es) none same =
    ap (held_before hs) (reverse-append front ((e ∷ es) ∷ [])) ∙ ap (λ h. held_before h (reverse front)) same

pub first_after_join : (s : State) (number : ℕ) → IsStore s → first_collection (after_join s number) ≡ first_collection s
first_after_join s number st =
    let hs = s.bag.held in
    let place = length s.done - number in
    let front = take place s.done in
    let newer = reverse (drop place s.done) in
    let old = steps_before number (history_of s) in
    let old_is = last_is_bag s number st in
    first_before_all (after_join s number)
    ∙ before_alone hs old front (joined_last s number) (λ none. sym (same_between old hs old_is.rises st.bag.rises none))
    (changed_inverse_between old hs old_is.rises st.bag.rises)
    ∙ ap (λ h. held_before h (reverse front)) (before_last s number)
    ∙ sym (held_before-append hs newer (reverse front))
    ∙ ap (held_before hs) (sym (reverse_parts s.done place))
    ∙ sym (first_before_all s)

-- ---- the joined change taken back

recorded_some : (es : List Entry) → (es ≡ [] → ⊥) → recorded_alone es ≡ es ∷ []
recorded_some [] some = absurd (some refl)
recorded_some (e ∷ es) some = refl

-- an undo leads to the collection before the joined changes, and to the changes before them
pub undo_of_join : (s : State) (number : ℕ) → IsStore s → (joined_last s number ≡ [] → ⊥)
    → ((after_undo (after_join s number)).bag ≡ with_held s.bag (steps_before number (history_of s)))
    × ((after_undo (after_join s number)).done ≡ take (length s.done - number) s.done)
undo_of_join s number st some =
    let es = joined_last s number in
    let front = take (length s.done - number) s.done in
    let old_is = last_is_bag s number st in
    let t = after_join s number in
    let is = ap (λ ess. front ++ ess) (recorded_some es some) in
    let undone = undo_of_last t front es is in (
      ap (λ (r : State). r.bag) undone
          ∙ ap (λ hs. with_held s.bag hs) (changed_inverse_between (steps_before number (history_of s)) s.bag.held old_is.rises st.bag.rises),
      ap (λ (r : State). r.done) undone ∙ ap (λ ess. take (length ess - 1) ess) is ∙ front_of front es,
    )

-- ---- what a store joins

-- the last changes, read off a list
pub last_listed : (done : List (List Entry)) (place : ℕ) → take (length done - place) (drop place done) ≡ drop place done
last_listed done place = take_all (length done - place) (drop place done) (omega (arith, length-drop place done))

pub last_has_place : (s : State) (number last : ℕ) (es : List Entry) → IsStore s → number ≡ length s.done → es ≡ joined_last s last
    → 0 < length es → number - last < length s.done
last_has_place s number last es st many is some =
    let size = ap length is in
    let place = some_place s last st (omega (arith, some, size)) in
    omega (arith, place, many)

pub replaces_last : (s : State) (number last : ℕ) (es : List Entry) (done : List (List Entry)) → number ≡ length s.done
    → es ≡ joined_last s last → done ≡ take (number - last) s.done ++ recorded_alone es
    → ◌≡◌ {A = State} (record { bag = s.bag; done = done; undone = s.undone; faces_rebuilt = s.faces_rebuilt }) (after_join s last)
replaces_last s number last es done many joins is =
    ap (λ (ess : List (List Entry)).
    let t : State = record { bag = s.bag; done = ess; undone = s.undone; faces_rebuilt = s.faces_rebuilt } in t)
    (is ∙ ap₂ (λ (n : ℕ) (x : List Entry). take (n - last) s.done ++ recorded_alone x) many joins)
