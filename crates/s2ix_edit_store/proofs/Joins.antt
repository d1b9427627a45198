-- One change in place of several: of the last ones that a store did, or of those that it is given.
use Rattle.std.proofs.Common.{◌≡◌, ◌+◌, ◌-◌, ◌<◌, ◌≤◌, ℕ, List, [], ◌∷◌, ◌++◌, All, None, drop, get_or, length, reverse, take, refl, sym, ap, ap₂, ◌∙◌, subst, arith}
use Rattle.std.proofs.lemmas.List.{append_assoc, append-nil, length-drop, take-append-drop}
use Rattle.std.proofs.lemmas.List.Elements.{All-head, All-tail}
use Rattle.s2ix_bag_pairs.specs.declared.pair.Entry.{Entry}
use Rattle.s2ix_bag_lists.specs.Apply.{apply_refusal}
use Rattle.s2ix_bag_lists.proofs.Refusals.{made_is_bag, taken_from_none}
use Rattle.s2ix_bag_pairs.specs.Change.{IsChangeList, change_between, changed}
use Rattle.s2ix_bag_pairs.specs.Collection.{Collection, IsBag, IsCollection, LimitedCollection}
use Rattle.s2ix_bag.specs.Replay.{after_change, after_changes, first_refusal, numbered_from, replay_refusal, replayed, rewound}
use Rattle.s2ix_bag.proofs.Back.{replay_of_rewind}
use Rattle.s2ix_bag.proofs.Forth.{first_taken, rest_taken}
use Rattle.s2ix_edit_plan.specs.History.{with_next}
use Rattle.s2ix_edit_plan.specs.State.{State, history_of}
use Rattle.s2ix_edit_plan.proofs.Plans.{between_changed}
use Rattle.s2ix_edit_plan.proofs.Edited.{held_at_cursor}
use Rattle.s2ix_edit_store.specs.Given.{after_apply, given_refusal, record_refusal, with_changes}
use Rattle.s2ix_edit_store.specs.Joining.{CanFollow, DoesAll, after_all}
use Rattle.s2ix_edit_store.specs.Steps.{after_join, after_record, joined_last, recorded_alone}
use Rattle.s2ix_edit_store.specs.Store.{CanGoBack, IsStore}
use Rattle.s2ix_edit_store.proofs.Along.{all_back_again, change_back}
use Rattle.s2ix_edit_store.proofs.Histories.{neither_refused}
use Rattle.s2ix_edit_store.proofs.Joined.{before_last, joined_by_rewind, last_goes_back, last_is_bag, last_listed, last_taken_back, rewound_before}
use Rattle.s2ix_edit_store.proofs.Offered.{history_made}
use Rattle.s2ix_edit_store.proofs.Shortened.{held_before}
use Rattle.s2ix_bag_pairs.specs.Limits.{changes_limit}
use Rattle.s2ix_edit_store.proofs.Standing.{rises_back}

-- ---- changes that are done one after the other

-- changes that are not refused can follow each other
can_follow : (bag : LimitedCollection) (changes : List (List Entry)) (number : ℕ) → All IsChangeList changes
    → first_refusal bag (numbered_from number changes) ≡ None → CanFollow bag.held changes
can_follow bag [] number rise none = tt
can_follow bag (es ∷ rest) number rise none =
    let taken = first_taken bag (record { number = number; change = es }) (numbered_from (number + 1) rest) none in (
      All-head IsChangeList es rest rise,
      (taken_from_none bag es taken).before,
      can_follow (after_change bag es) rest (number + 1) (All-tail IsChangeList es rest rise)
          (rest_taken bag (record { number = number; change = es }) (numbered_from (number + 1) rest) none),
    )

after_all_numbered : (bag : LimitedCollection) (changes : List (List Entry)) (number : ℕ)
    → after_all bag.held changes ≡ (after_changes bag (numbered_from number changes)).held
after_all_numbered bag [] number = refl
after_all_numbered bag (es ∷ rest) number = after_all_numbered (after_change bag es) rest (number + 1)

-- so the one change that does all is that between the first bag and the last
pub does_replayed : (bag : LimitedCollection) (changes : List (List Entry)) (es : List Entry) → IsCollection bag.held
    → All IsChangeList changes → replay_refusal bag changes ≡ None → DoesAll changes es
    → es ≡ change_between bag.held (replayed bag changes).held
does_replayed bag changes es b rise none does =
    does bag.held b (can_follow bag changes 1 rise none) ∙ ap (change_between bag.held) (after_all_numbered bag changes 1)

pub whole_change : (bag after : LimitedCollection) (changes : List (List Entry)) (es : List Entry) → IsCollection bag.held
    → All IsChangeList changes → replay_refusal bag changes ≡ None → after ≡ replayed bag changes → DoesAll changes es
    → es ≡ change_between bag.held after.held
whole_change bag after changes es b rise none is does =
    does_replayed bag changes es b rise none does ∙ ap (λ (x : LimitedCollection). change_between bag.held x.held) (sym is)

-- ---- the last changes of a store

-- the one change that does them is the joined one
does_last : (s : State) (number : ℕ) (es : List Entry) → IsStore s → DoesAll (drop (length s.done - number) s.done) es
    → es ≡ joined_last s number
does_last s number es st does =
    let changes = drop (length s.done - number) s.done in
    let rise = all_back_again IsChangeList changes (rises_back s.bag (reverse changes) (last_goes_back s number st)) in
    let before = rewound s.bag changes in
    let home = replay_of_rewind s.bag changes st.bag rise (last_taken_back s number st) in
    let Rises : Collection → Type 0 = λ hs. IsCollection hs in
    let before_rises =
    subst Rises (before_last s number ∙ sym (rewound_before s.bag changes)) (last_is_bag s number st).rises in
    does_replayed before changes es before_rises rise home.0 does
    ∙ ap (λ (bag : LimitedCollection). change_between before.held bag.held) home.1
    ∙ joined_by_rewind s number

pub joins_last : (s : State) (listed : List (List Entry)) (number last : ℕ) (es : List Entry) → IsStore s → listed ≡ s.done
    → number ≡ length s.done → DoesAll (take (length listed - (number - last)) (drop (number - last) listed)) es → es ≡ joined_last s last
joins_last s listed number last es st read many does =
    let Does : List (List Entry) → Type 0 = λ ess. DoesAll ess es in
    does_last s last es st
    (subst Does
    (ap₂ (λ (ess : List (List Entry)) (n : ℕ). take (length ess - (n - last)) (drop (n - last) ess)) read many
    ∙ last_listed s.done (length s.done - last))
    does)

pub last_some : (done listed : List (List Entry)) (number last : ℕ) → listed ≡ done → number ≡ length done → 0 < last → last ≤ number
    → 0 < length (take (length listed - (number - last)) (drop (number - last) listed))
last_some done listed number last read many some within =
    let size =
    ap length
    (ap₂ (λ (ess : List (List Entry)) (n : ℕ). take (length ess - (n - last)) (drop (n - last) ess)) read many
    ∙ last_listed done (length done - last)) in
    omega (arith, size, length-drop (length done - last) done, some, within, many)

-- ---- at most one change

-- it is joined to itself
alone_joined : (s : State) (number : ℕ) (last : List (List Entry)) → IsStore s → drop (length s.done - number) s.done ≡ last
    → length last ≤ 1 → (joined_last s number ≡ get_or last 0 []) × (recorded_alone (joined_last s number) ≡ last)
alone_joined s number [] st is within_limit =
    let hs = s.bag.held in
    let same = before_last s number ∙ ap (λ ess. held_before hs (reverse ess)) is in
    let none = ap (λ old. change_between old hs) same ∙ between_changed s.bag [] st.bag.rises tt refl in
    (none, ap recorded_alone none)
alone_joined s number (x ∷ y ∷ rest) st is within_limit = absurd (omega (arith, within_limit))
alone_joined s number ([] ∷ []) st is within_limit =
    let Back : List (List Entry) → Type 0 = λ ess. CanGoBack s.bag (reverse ess) in
    let back = subst Back is (last_goes_back s number st) in
    absurd (omega (arith, back.1))
alone_joined s number ((e ∷ es) ∷ []) st is within_limit =
    let Back : List (List Entry) → Type 0 = λ ess. CanGoBack s.bag (reverse ess) in
    let back = subst Back is (last_goes_back s number st) in
    let same = before_last s number ∙ ap (λ ess. held_before s.bag.held (reverse ess)) is in
    let one = ap (λ old. change_between old s.bag.held) same ∙ change_back s.bag (e ∷ es) st.bag back.0 back.2 in
    (one, ap recorded_alone one)

-- and takes its own place
pub few_stay : (s : State) (number : ℕ) → IsStore s → number ≤ 1 → number ≤ length s.done → after_join s number ≡ s
few_stay s number st within_limit within =
    let place = length s.done - number in
    let alone = alone_joined s number (drop place s.done) st refl (omega (arith, within_limit, within, length-drop place s.done)) in
    ap (λ (ess : List (List Entry)).
    let t : State = record { bag = s.bag; done = ess; undone = s.undone; faces_rebuilt = s.faces_rebuilt } in t)
    (ap (λ ess. take place s.done ++ ess) alone.1 ∙ take-append-drop place s.done)

pub few_sized : (s : State) (listed : List (List Entry)) (many number n : ℕ) → IsStore s → listed ≡ s.done → many ≡ length s.done
    → number ≤ 1 → number ≤ length s.done
    → n ≡ length (get_or (take (length listed - (many - number)) (drop (many - number) listed)) 0 []) → n ≡ length (joined_last s number)
few_sized s listed many number n st read long within_limit within is =
    let place = length s.done - number in
    let alone = alone_joined s number (drop place s.done) st refl (omega (arith, within_limit, within, length-drop place s.done)) in
    is
    ∙ ap (λ ess. length (get_or ess 0 []))
    (ap₂ (λ (ess : List (List Entry)) (k : ℕ). take (length ess - (k - number)) (drop (k - number) ess)) read long
    ∙ last_listed s.done place)
    ∙ ap length (sym alone.0)

-- ---- the history of a store that does changes

abbrev gone_on : State → ℕ → List (List Entry) → State
gone_on s number changes =
    record { bag = after_changes s.bag (numbered_from number changes); done = s.done ++ changes; undone = []; faces_rebuilt = 0 }

-- it goes on by the first change, and then by the others
history_first : (s : State) (number : ℕ) (es : List Entry) (rest : List (List Entry)) → IsBag s.bag → IsChangeList es
    → apply_refusal s.bag es ≡ None
    → history_of (gone_on (after_record s es) (number + 1) rest) ≡ with_changes rest (history_of (after_record s es))
    → history_of (gone_on s number (es ∷ rest)) ≡ with_changes (es ∷ rest) (history_of s)
history_first s number es rest b rises taken others =
    let bag = after_changes (after_change s.bag es) (numbered_from (number + 1) rest) in
    ap (λ (ess : List (List Entry)).
    let t : State = record { bag = bag; done = ess; undone = []; faces_rebuilt = 0 } in history_of t)
    (sym (append_assoc s.done (es ∷ []) rest))
    ∙ others
    ∙ ap (with_changes rest) (history_made s es b rises taken)
    ∙ ap (λ (hs : Collection). with_changes rest (with_next (history_of s) (changed hs es))) (sym (held_at_cursor s))

history_gone_on : (s : State) (number : ℕ) (changes : List (List Entry)) → IsBag s.bag → s.undone ≡ [] → All IsChangeList changes
    → first_refusal s.bag (numbered_from number changes) ≡ None
    → history_of (gone_on s number changes) ≡ with_changes changes (history_of s)
history_gone_on s number [] b none rise fits =
    ap₂ (λ (xs ys : List (List Entry)).
    let t : State = record { bag = s.bag; done = xs; undone = ys; faces_rebuilt = 0 } in history_of t)
    (append-nil s.done) (sym none)
history_gone_on s number (es ∷ rest) b none rise fits =
    let rises = All-head IsChangeList es rest rise in
    let taken = first_taken s.bag (record { number = number; change = es }) (numbered_from (number + 1) rest) fits in
    history_first s number es rest b rises taken
    (history_gone_on (after_record s es) (number + 1) rest (made_is_bag s.bag es b rises (taken_from_none s.bag es taken)) refl
    (All-tail IsChangeList es rest rise)
    (rest_taken s.bag (record { number = number; change = es }) (numbered_from (number + 1) rest) fits))

pub history_after_apply : (s : State) (changes : List (List Entry)) → IsStore s → All IsChangeList changes → given_refusal s changes ≡ None
    → history_of (after_apply s changes) ≡ with_changes changes (history_of s)
history_after_apply s [] st rise none = refl
history_after_apply s (es ∷ rest) st rise none =
    let room = changes_limit s.bag.limits - length s.done in
    let fits = (neither_refused (record_refusal room (es ∷ rest)) (replay_refusal s.bag (es ∷ rest)) none).1 in
    let rises = All-head IsChangeList es rest rise in
    let taken = first_taken s.bag (record { number = 1; change = es }) (numbered_from 2 rest) fits in
    history_first s 1 es rest st.bag rises taken
    (history_gone_on (after_record s es) 2 rest (made_is_bag s.bag es st.bag rises (taken_from_none s.bag es taken)) refl
    (All-tail IsChangeList es rest rise)
    (rest_taken s.bag (record { number = 1; change = es }) (numbered_from 2 rest) fits))
