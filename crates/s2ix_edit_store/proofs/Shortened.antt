-- A store whose older changes are forgotten.
use Rattle.std.proofs.Common.{◌≡◌, ◌+◌, ◌-◌, ◌≤◌, ℕ, List, [], ◌∷◌, ◌++◌, get_or, length, take, drop, reverse, sym, ap, ap₂, ◌∙◌, subst, arith}
use Rattle.std.proofs.lemmas.List.{append_assoc, append-nil, get_or-drop, length-append, length-drop, length-reverse, reverse-append, take-append-drop}
use Rattle.std.proofs.Math.Seq.{drop-append_seam}
use Rattle.s2ix_bag_pairs.specs.declared.pair.Entry.{Entry}
use Rattle.s2ix_bag_pairs.specs.Change.{changed, inverse_of}
use Rattle.s2ix_bag_pairs.specs.Collection.{Collection, LimitedCollection}
use Rattle.s2ix_edit_plan.specs.State.{State, earlier, history_of, later}
use Rattle.s2ix_edit_plan.specs.History.{History}
use Rattle.s2ix_edit_plan.proofs.Edited.{length-earlier}
use Rattle.s2ix_edit_store.specs.Shortened.{steps_before, with_newest}
use Rattle.s2ix_edit_store.specs.Standing.{first_collection}
use Rattle.s2ix_edit_store.specs.Steps.{after_forget_older, with_held}
use Rattle.s2ix_edit_store.specs.Store.{CanGoBack, IsStore}

-- ---- a way back in two parts

-- the collection before these changes, the newest first
abbrev pub held_before : Collection → List (List Entry) → Collection
held_before hs [] = hs
held_before hs (es ∷ older) = held_before (changed hs (inverse_of es)) older

-- the earlier collections are those of the older changes and then those of the newer
pub earlier-append : (hs : Collection) (newer older : List (List Entry))
    → earlier hs (newer ++ older) ≡ earlier (held_before hs newer) older ++ earlier hs newer
earlier-append hs [] older = sym (append-nil (earlier hs older))
earlier-append hs (es ∷ newer) older =
    let prev = changed hs (inverse_of es) in
    ap (λ hss. hss ++ prev ∷ []) (earlier-append prev newer older)
    ∙ append_assoc (earlier (held_before prev newer) older) (earlier prev newer) (prev ∷ [])

-- the newer changes can be taken back, and then the older
pub newer_back : (bag : LimitedCollection) (newer older : List (List Entry)) → CanGoBack bag (newer ++ older) → CanGoBack bag newer
newer_back bag [] older back = tt
newer_back bag (es ∷ newer) older back =
    (back.0, back.1, back.2, newer_back (with_held bag (changed bag.held (inverse_of es))) newer older back.3)

pub older_back : (bag : LimitedCollection) (newer older : List (List Entry)) → CanGoBack bag (newer ++ older)
    → CanGoBack (with_held bag (held_before bag.held newer)) older
older_back bag [] older back = back
older_back bag (es ∷ newer) older back = older_back (with_held bag (changed bag.held (inverse_of es))) newer older back.3

-- changes from a place on, turned round, come before those up to it
pub reverse_parts : (done : List (List Entry)) (place : ℕ) → reverse done ≡ reverse (drop place done) ++ reverse (take place done)
reverse_parts done place = ap reverse (sym (take-append-drop place done)) ∙ reverse-append (take place done) (drop place done)

-- ---- the older ones forgotten

-- how many of them there are
pub length_of_older : (done : List (List Entry)) (place : ℕ) → place ≤ length done → length (take place done) ≡ place
length_of_older done place within =
    let whole = ap length (take-append-drop place done) in
    omega (arith, within, whole, length-append (take place done) (drop place done), length-drop place done)

pub length_before : (s : State) (place : ℕ) → place ≤ length s.done
    → length (earlier (held_before s.bag.held (reverse (drop place s.done))) (reverse (take place s.done))) ≡ place
length_before s place within =
    length-earlier (held_before s.bag.held (reverse (drop place s.done))) (reverse (take place s.done))
    ∙ length-reverse (take place s.done) ∙ length_of_older s.done place within

-- the collections of a history are those before a place and those from it on
pub collections_at : (s : State) (place : ℕ)
    → (history_of s).collections
    ≡ earlier (held_before s.bag.held (reverse (drop place s.done))) (reverse (take place s.done))
    ++ (earlier s.bag.held (reverse (drop place s.done)) ++ s.bag.held ∷ later s.bag.held (reverse s.undone))
collections_at s place =
    let hs = s.bag.held in
    let newer = reverse (drop place s.done) in
    let older = reverse (take place s.done) in
    let on = hs ∷ later hs (reverse s.undone) in
    ap (λ ess. earlier hs ess ++ on) (reverse_parts s.done place)
    ∙ ap (λ hss. hss ++ on) (earlier-append hs newer older)
    ∙ append_assoc (earlier (held_before hs newer) older) (earlier hs newer) on

-- the history starts so much later
pub collections_from : (s : State) (place : ℕ) → place ≤ length s.done
    → drop place (history_of s).collections
    ≡ earlier s.bag.held (reverse (drop place s.done)) ++ s.bag.held ∷ later s.bag.held (reverse s.undone)
collections_from s place within =
    let hs = s.bag.held in
    let newer = reverse (drop place s.done) in
    let before = earlier (held_before hs newer) (reverse (take place s.done)) in
    let after = earlier hs newer ++ hs ∷ later hs (reverse s.undone) in
    ap (drop place) (collections_at s place)
    ∙ ap (λ n. drop n (before ++ after)) (sym (length_before s place within))
    ∙ drop-append_seam before after

pub history_after_forget_older : (s : State) (newest : ℕ)
    → history_of (after_forget_older s newest) ≡ with_newest newest (history_of s)
history_after_forget_older s newest =
    ap₂ (λ (collections : List Collection) (cursor : ℕ). let h : History = record { collections = collections; cursor = cursor } in h)
    (sym (collections_from s (length s.done - newest) (omega arith)))
    (length-drop (length s.done - newest) s.done)

pub forget_older_keeps : (s : State) (newest : ℕ) → IsStore s → IsStore (after_forget_older s newest)
forget_older_keeps s newest st =
    let place = length s.done - newest in
    let Back : List (List Entry) → Type 0 = λ ess. CanGoBack s.bag ess in
    let within_limit = st.room in
    record {
      bag = st.bag;
      can_go_back = newer_back s.bag (reverse (drop place s.done)) (reverse (take place s.done)) (subst Back (reverse_parts s.done place) st.can_go_back);
      can_go_on = st.can_go_on;
      room = omega (arith, within_limit, length-drop place s.done);
    }

pub first_after_forget_older : (s : State) (newest : ℕ)
    → first_collection (after_forget_older s newest) ≡ steps_before newest (history_of s)
first_after_forget_older s newest =
    let place = length s.done - newest in
    let start : place + 0 ≡ place = omega arith in
    ap (λ (h : History). get_or h.collections 0 []) (history_after_forget_older s newest)
    ∙ get_or-drop place (history_of s).collections 0 []
    ∙ ap (λ n. get_or (history_of s).collections n []) start

pub none_forgotten : (s : State) (newest : ℕ) → length s.done ≤ newest → after_forget_older s newest ≡ s
none_forgotten s newest within_limit =
    let none : length s.done - newest ≡ 0 = omega (arith, within_limit) in
    ap (λ n.
    let t : State = record { bag = s.bag; done = drop n s.done; undone = s.undone; faces_rebuilt = s.faces_rebuilt } in t)
    none
