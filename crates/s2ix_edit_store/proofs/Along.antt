-- The collections of a store's history.
use Rattle.std.proofs.Common.{◌≡◌, ◌+◌, ◌<◌, List, [], ◌∷◌, ◌++◌, All, get_or, length, reverse, Some, None, refl, sym, ap, ap₂, ◌∙◌, subst, arith}
use Rattle.std.specs.List.{slice_get}
use Rattle.std.proofs.lemmas.List.{append_assoc, length-append, length-reverse, reverse-append, reverse-reverse}
use Rattle.std.proofs.Math.Seq.{get_or-append_seam}
use Rattle.std.proofs.lemmas.List.Elements.{All-nil, All-cons, All-append, All-head, All-tail}
use Rattle.std.proofs.lemmas.Option.{slice_get_read}
use Rattle.s2ix_bag_pairs.specs.declared.pair.Entry.{Entry}
use Rattle.s2ix_bag_lists.specs.Apply.{apply_refusal}
use Rattle.s2ix_bag_pairs.specs.Change.{change_between, changed, inverse_of, IsChangeList}
use Rattle.s2ix_bag_pairs.specs.Collection.{Collection, LimitedCollection, IsBag}
use Rattle.s2ix_bag_pairs.proofs.Inverse.{inverse_keeps}
use Rattle.s2ix_bag_lists.proofs.Refusals.{made_is_bag, taken_from_none}
use Rattle.s2ix_edit_plan.specs.State.{State, earlier, history_of, later}
use Rattle.s2ix_edit_plan.specs.History.{changes_along, changes_from}
use Rattle.s2ix_edit_plan.proofs.Edited.{length-earlier}
use Rattle.s2ix_edit_plan.proofs.Plans.{between_changed}
use Rattle.s2ix_edit_store.specs.Store.{IsStore, CanGoBack, CanGoOn}
use Rattle.s2ix_edit_store.specs.Steps.{with_held}
use Rattle.s2ix_edit_store.proofs.AtCursor.{forth_again, taken_again}
use Rattle.s2ix_edit_store.proofs.Taken.{not_mismatched}

-- ---- the changes between neighbours

-- on from the store's collection they are the changes that can be done
changes_on : (bag : LimitedCollection) (ess : List (List Entry)) → IsBag bag → CanGoOn bag ess
    → changes_from bag.held (later bag.held ess) ≡ ess
changes_on bag [] b on = refl
changes_on bag (es ∷ rest) b on =
    let next = made_is_bag bag es b on.0 (taken_from_none bag es on.2) in
    ap₂ (λ (x : List Entry) (xs : List (List Entry)). x ∷ xs)
    (between_changed bag es b.rises on.0 (not_mismatched bag es on.2))
    (changes_on (with_held bag (changed bag.held es)) rest next on.3)

pub reverse_cons : (es : List Entry) (older : List (List Entry)) → reverse (es ∷ older) ≡ reverse older ++ es ∷ []
reverse_cons es older = reverse-append (es ∷ []) older

-- the change from the collection before
pub change_back : (bag : LimitedCollection) (es : List Entry) → IsBag bag → IsChangeList es → apply_refusal bag (inverse_of es) ≡ None
    → change_between (changed bag.held (inverse_of es)) bag.held ≡ es
change_back bag es b rises taken =
    let prev = with_held bag (changed bag.held (inverse_of es)) in
    let prev_is = made_is_bag bag (inverse_of es) b (inverse_keeps es rises) (taken_from_none bag (inverse_of es) taken) in
    ap (λ hs. change_between prev.held hs) (sym (forth_again bag es b.rises rises (not_mismatched bag (inverse_of es) taken)))
    ∙ between_changed prev es prev_is.rises rises (not_mismatched prev es (taken_again bag es b rises taken))

-- and up to it they are the changes that can be taken back
changes_back : (bag : LimitedCollection) (ess : List (List Entry)) (rest : List Collection) → IsBag bag → CanGoBack bag ess
    → changes_along (earlier bag.held ess ++ bag.held ∷ rest) ≡ reverse ess ++ changes_from bag.held rest
changes_back bag [] rest b back = refl
changes_back bag (es ∷ older) rest b back =
    let prev = with_held bag (changed bag.held (inverse_of es)) in
    let prev_is = made_is_bag bag (inverse_of es) b (inverse_keeps es back.0) (taken_from_none bag (inverse_of es) back.2) in
    ap changes_along (append_assoc (earlier prev.held older) (prev.held ∷ []) (bag.held ∷ rest))
    ∙ changes_back prev older (bag.held ∷ rest) prev_is back.3
    ∙ ap (λ x. reverse older ++ x ∷ changes_from bag.held rest) (change_back bag es b back.0 back.2)
    ∙ sym (append_assoc (reverse older) (es ∷ []) (changes_from bag.held rest))
    ∙ ap (λ xs. xs ++ changes_from bag.held rest) (sym (reverse_cons es older))

pub changes_of_history : (s : State) → IsStore s → changes_along (history_of s).collections ≡ s.done ++ reverse s.undone
changes_of_history s st =
    changes_back s.bag (reverse s.done) (later s.bag.held (reverse s.undone)) st.bag st.can_go_back
    ∙ ap₂ (λ (xs ys : List (List Entry)). xs ++ ys) (reverse-reverse s.done) (changes_on s.bag (reverse s.undone) st.bag st.can_go_on)

-- ---- each collection is within the limits

within_on : (bag : LimitedCollection) (ess : List (List Entry)) → IsBag bag → CanGoOn bag ess
    → All (λ hs. IsBag (with_held bag hs)) (later bag.held ess)
within_on bag [] b on = All-nil (λ (hs : Collection). IsBag (with_held bag hs))
within_on bag (es ∷ rest) b on =
    let next = made_is_bag bag es b on.0 (taken_from_none bag es on.2) in
    All-cons (λ (hs : Collection). IsBag (with_held bag hs)) (changed bag.held es) (later (changed bag.held es) rest) next
    (within_on (with_held bag (changed bag.held es)) rest next on.3)

within_back : (bag : LimitedCollection) (ess : List (List Entry)) → IsBag bag → CanGoBack bag ess
    → All (λ hs. IsBag (with_held bag hs)) (earlier bag.held ess)
within_back bag [] b back = All-nil (λ (hs : Collection). IsBag (with_held bag hs))
within_back bag (es ∷ older) b back =
    let Fits : Collection → Type 0 = λ hs. IsBag (with_held bag hs) in
    let prev_is = made_is_bag bag (inverse_of es) b (inverse_keeps es back.0) (taken_from_none bag (inverse_of es) back.2) in
    All-append Fits (earlier (changed bag.held (inverse_of es)) older) (changed bag.held (inverse_of es) ∷ [])
    (within_back (with_held bag (changed bag.held (inverse_of es))) older prev_is back.3)
    (All-cons Fits (changed bag.held (inverse_of es)) [] prev_is (All-nil Fits))

pub history_within : (s : State) → IsStore s → All (λ hs. IsBag (with_held s.bag hs)) (history_of s).collections
history_within s st =
    let Fits : Collection → Type 0 = λ hs. IsBag (with_held s.bag hs) in
    All-append Fits (earlier s.bag.held (reverse s.done)) (s.bag.held ∷ later s.bag.held (reverse s.undone))
    (within_back s.bag (reverse s.done) st.bag st.can_go_back)
    (All-cons Fits s.bag.held (later s.bag.held (reverse s.undone)) st.bag (within_on s.bag (reverse s.undone) st.bag st.can_go_on))

-- ---- each change has entries

abbrev HasEntries : List Entry → Type 0
HasEntries es = 0 < length es

some_on : (bag : LimitedCollection) (ess : List (List Entry)) → CanGoOn bag ess → All HasEntries ess
some_on bag [] on = All-nil HasEntries
some_on bag (es ∷ rest) on =
    All-cons HasEntries es rest on.1 (some_on (with_held bag (changed bag.held es)) rest on.3)

pub some_back : (bag : LimitedCollection) (ess : List (List Entry)) → CanGoBack bag ess → All HasEntries ess
some_back bag [] back = All-nil HasEntries
some_back bag (es ∷ older) back =
    All-cons HasEntries es older back.1 (some_back (with_held bag (changed bag.held (inverse_of es))) older back.3)

pub all_reversed : (P : List Entry → Type 0) (ess : List (List Entry)) → All P ess → All P (reverse ess)
all_reversed P [] all = all
all_reversed P (es ∷ rest) all =
    subst (λ (xs : List (List Entry)). All P xs) (sym (reverse_cons es rest))
    (All-append P (reverse rest) (es ∷ []) (all_reversed P rest (All-tail P es rest all))
    (All-cons P es [] (All-head P es rest all) (All-nil P)))

-- what holds of all changes in the one order holds of them in the other
pub all_back_again : (P : List Entry → Type 0) (ess : List (List Entry)) → All P (reverse ess) → All P ess
all_back_again P ess all =
    subst (λ (xs : List (List Entry)). All P xs) (reverse-reverse ess) (all_reversed P (reverse ess) all)

pub some_done : (s : State) → IsStore s → All (λ es. 0 < length es) s.done
some_done s st = all_back_again HasEntries s.done (some_back s.bag (reverse s.done) st.can_go_back)

pub changes_have_entries : (s : State) → IsStore s → All (λ es. 0 < length es) (s.done ++ s.undone)
changes_have_entries s st =
    All-append HasEntries s.done s.undone
    (some_done s st)
    (all_back_again HasEntries s.undone (some_on s.bag (reverse s.undone) st.can_go_on))

-- ---- the cursor

pub bag_at_cursor : (s : State) → slice_get (history_of s).collections (history_of s).cursor ≡ Some s.bag.held
bag_at_cursor s =
    let before = earlier s.bag.held (reverse s.done) in
    let after = later s.bag.held (reverse s.undone) in
    let place = length-earlier s.bag.held (reverse s.done) ∙ length-reverse s.done in
    slice_get_read (before ++ s.bag.held ∷ after) (length (before ++ s.bag.held ∷ after)) (length s.done) s.bag.held refl
    (omega (arith, place, length-append before (s.bag.held ∷ after)))
    (sym (get_or-append_seam before s.bag.held after s.bag.held) ∙ ap (λ k. get_or (before ++ s.bag.held ∷ after) k s.bag.held) place)

-- ---- its length

length-later : (hs : Collection) (ess : List (List Entry)) → length (later hs ess) ≡ length ess
length-later hs [] = refl
length-later hs (es ∷ rest) = let e = length-later (changed hs es) rest in omega (arith, e)

pub length_of_history : (s : State) → length (history_of s).collections ≡ (history_of s).cursor + 1 + length s.undone
length_of_history s =
    let before = length-earlier s.bag.held (reverse s.done) ∙ length-reverse s.done in
    let after = length-later s.bag.held (reverse s.undone) ∙ length-reverse s.undone in
    omega (arith, before, after, length-append (earlier s.bag.held (reverse s.done)) (s.bag.held ∷ later s.bag.held (reverse s.undone)))
