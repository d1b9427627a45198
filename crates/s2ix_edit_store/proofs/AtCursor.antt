-- Where a store stands in its history.
use Rattle.std.proofs.Common.{◌≡◌, ℕ, ◌+◌, ◌-◌, ◌<◌, List, [], ◌∷◌, ◌++◌, length, take, drop, reverse, Option, Some, None, refl, sym, ap, ap₂, ◌∙◌, subst, arith}
use Rattle.std.proofs.lemmas.List.{append_assoc, length-append, length-reverse, reverse-append, get_or_push}
use Rattle.std.proofs.Math.Seq.{drop-append_seam, take-append-add}
use Rattle.s2ix_bag_pairs.specs.declared.pair.Entry.{Entry}
use Rattle.s2ix_bag_lists.specs.Apply.{apply_refusal, first_mismatch}
use Rattle.s2ix_bag_pairs.specs.Change.{changed, inverse_of, IsChangeList}
use Rattle.s2ix_bag_pairs.specs.Collection.{Collection, LimitedCollection, IsBag, IsCollection}
use Rattle.s2ix_bag_pairs.specs.Limits.{changes_limit}
use Rattle.s2ix_edit_plan.specs.State.{State, earlier, later, history_of}
use Rattle.s2ix_edit_plan.specs.History.{History, alone, cursor_alone, one_back, one_on, with_next}
use Rattle.s2ix_edit_plan.proofs.Edited.{length-earlier}
use Rattle.s2ix_edit_store.specs.Store.{IsStore, CanGoBack, CanGoOn}
use Rattle.s2ix_bag_pairs.proofs.Inverse.{inverse-inverse, inverse_keeps}
use Rattle.s2ix_edit_store.specs.Steps.{with_held, after_record, after_step, IsShifted}
use Rattle.s2ix_edit_store.proofs.Taken.{changed_back, not_mismatched, takes_back}
use Rattle.std.specs.List.{slice_get}
use Rattle.std.proofs.lemmas.Option.{slice_get_read}

-- ---- lists

reverse_push : (done : List (List Entry)) (es : List Entry) → reverse (done ++ es ∷ []) ≡ es ∷ reverse done
reverse_push done es = reverse-append done (es ∷ [])

pub take_through : (xs ys : List Collection) (x : Collection) (n : ℕ) → length xs ≡ n → take (n + 1) (xs ++ x ∷ ys) ≡ xs ++ x ∷ []
take_through xs ys x n e = ap (λ k. take (k + 1) (xs ++ x ∷ ys)) (sym e) ∙ take-append-add xs (x ∷ ys) 1

pub slice_get_last : (front : List (List Entry)) (y : List Entry) → slice_get (front ++ y ∷ []) (length (front ++ y ∷ []) - 1) ≡ Some y
slice_get_last front y =
    slice_get_read (front ++ y ∷ []) (length (front ++ y ∷ [])) (length (front ++ y ∷ []) - 1) y refl
    (omega (arith, length-append front (y ∷ [])))
    (sym (get_or_push front y y (length (front ++ y ∷ []) - 1) (omega (arith, length-append front (y ∷ [])))))

pub same_last : (xs front : List (List Entry)) (x y : List Entry) → xs ≡ front ++ y ∷ [] → Some x ≡ slice_get xs (length xs - 1) → x ≡ y
same_last xs front x y is found =
    let e : ◌≡◌ {A = Option (List Entry)} (Some x) (Some y) = found ∙ ap (λ l. slice_get l (length l - 1)) is ∙ slice_get_last front y in
    cc

-- ---- planned entries recorded

collections_recorded : (hs new : Collection) (es : List Entry) (done : List (List Entry)) (rest : List Collection)
    → changed new (inverse_of es) ≡ hs
    → earlier new (reverse (done ++ es ∷ [])) ++ new ∷ [] ≡ take (length done + 1) (earlier hs (reverse done) ++ hs ∷ rest) ++ new ∷ []
collections_recorded hs new es done rest back =
    ap (λ xs. earlier new xs ++ new ∷ []) (reverse_push done es)
    ∙ ap (λ k. (earlier k (reverse done) ++ k ∷ []) ++ new ∷ []) back
    ∙ ap (λ xs. xs ++ new ∷ [])
    (sym (take_through (earlier hs (reverse done)) rest hs (length done) (length-earlier hs (reverse done) ∙ length-reverse done)))

-- the history goes on to the collection to which a step leads
pub history_step : (s : State) (new : Collection) (es : List Entry) → changed new (inverse_of es) ≡ s.bag.held
    → history_of (after_step s new es) ≡ with_next (history_of s) new
history_step s new es back =
    ap₂ (λ (collections : List Collection) (cursor : ℕ). let h : History = record { collections = collections; cursor = cursor } in h)
    (collections_recorded s.bag.held new es s.done (later s.bag.held (reverse s.undone)) back)
    (length-append s.done (es ∷ []))

-- a bag that a change made can go back over it, and on as before
pub back_over : (bag : LimitedCollection) (done : List (List Entry)) (es : List Entry) → IsBag bag → CanGoBack bag (reverse done)
    → IsChangeList es → 0 < length es → apply_refusal bag es ≡ None
    → CanGoBack (with_held bag (changed bag.held es)) (reverse (done ++ es ∷ []))
back_over bag done es b back rises some taken =
    let Back : List (List Entry) → Type 0 = λ xs. CanGoBack (with_held bag (changed bag.held es)) xs in
    let Older : Collection → Type 0 = λ hs. CanGoBack (with_held bag hs) (reverse done) in
    subst Back (sym (reverse_push done es))
    (rises, some, takes_back bag es b rises taken, subst Older (sym (changed_back bag es b.rises rises (not_mismatched bag es taken))) back)

-- the store stands at the changed bag, with one more change after it
pub stands_recorded : (s after : State) (es : List Entry) → after ≡ after_record s es → IsStore s
    → length s.done < changes_limit s.bag.limits → IsChangeList es → 0 < length es → apply_refusal s.bag es ≡ None → IsBag after.bag
    → IsStore after
stands_recorded s after es is st room rises some taken b =
    let Stands : State → Type 0 = λ t. IsStore t in
    let Bag : LimitedCollection → Type 0 = λ bag. IsBag bag in
    subst Stands (sym is) (record {
      bag = subst Bag (ap (λ (t : State). t.bag) is) b;
      can_go_back = back_over s.bag s.done es st.bag st.can_go_back rises some taken;
      can_go_on = tt;
      room = omega (arith, length-append s.done (es ∷ []));
    })

-- ---- an undo

-- the history stays, and the place goes back by one
collections_undone : (hs prev : Collection) (es : List Entry) (front undone : List (List Entry)) → prev ≡ changed hs (inverse_of es)
    → changed prev es ≡ hs
    → earlier prev (reverse front) ++ prev ∷ later prev (reverse (undone ++ es ∷ []))
    ≡ earlier hs (reverse (front ++ es ∷ [])) ++ hs ∷ later hs (reverse undone)
collections_undone hs prev es front undone is forth =
    ap (λ xs. earlier prev (reverse front) ++ prev ∷ later prev xs) (reverse_push undone es)
    ∙ ap (λ k. earlier prev (reverse front) ++ prev ∷ (k ∷ later k (reverse undone))) forth
    ∙ sym (append_assoc (earlier prev (reverse front)) (prev ∷ []) (hs ∷ later hs (reverse undone)))
    ∙ ap (λ k. (earlier k (reverse front) ++ k ∷ []) ++ hs ∷ later hs (reverse undone)) is
    ∙ ap (λ xs. earlier hs xs ++ hs ∷ later hs (reverse undone)) (sym (reverse_push front es))

-- the last change of the first store is taken back in the second
pub record Undoes (s after : State) (es : List Entry) : Type 0 where
  pub bag : after.bag ≡ with_held s.bag (changed s.bag.held (inverse_of es))
  pub done : s.done ≡ after.done ++ es ∷ []
  pub undone : after.undone ≡ s.undone ++ es ∷ []

-- a step that shifts the last change to the undone, and takes it back from the bag
pub undoes_shifted : (s after : State) (last : List Entry) (number : ℕ) (shifted : IsShifted s.done s.undone after.done after.undone number)
    → Some last ≡ slice_get s.done (length s.done - 1) → after.bag ≡ with_held s.bag (changed s.bag.held (inverse_of last))
    → Undoes s after shifted.last
undoes_shifted s after last number shifted found is = record {
  bag =
      is ∙ ap (λ es. with_held s.bag (changed s.bag.held (inverse_of es)))
      (same_last s.done after.done last shifted.last shifted.taken found);
  done = shifted.taken;
  undone = shifted.put;
}

-- a store can go back over its last change
pub goes_back : (s : State) (front : List (List Entry)) (es : List Entry) → IsStore s → s.done ≡ front ++ es ∷ []
    → CanGoBack s.bag (es ∷ reverse front)
goes_back s front es st is =
    let Back : List (List Entry) → Type 0 = λ xs. CanGoBack s.bag xs in
    subst Back (ap reverse is ∙ reverse_push front es) st.can_go_back

-- and forth again: the change taken back twice is the change
pub forth_again : (bag : LimitedCollection) (es : List Entry) → IsCollection bag.held → IsChangeList es
    → first_mismatch bag (inverse_of es) ≡ None → changed (changed bag.held (inverse_of es)) es ≡ bag.held
forth_again bag es c rises matches =
    ap (λ xs. changed (changed bag.held (inverse_of es)) xs) (sym (inverse-inverse es))
    ∙ changed_back bag (inverse_of es) c (inverse_keeps es rises) matches

pub taken_again : (bag : LimitedCollection) (es : List Entry) → IsBag bag → IsChangeList es → apply_refusal bag (inverse_of es) ≡ None
    → apply_refusal (with_held bag (changed bag.held (inverse_of es))) es ≡ None
taken_again bag es b rises taken =
    ap (λ xs. apply_refusal (with_held bag (changed bag.held (inverse_of es))) xs) (sym (inverse-inverse es))
    ∙ takes_back bag (inverse_of es) b (inverse_keeps es rises) taken

-- the store stands at the bag before its last change, which can be done again
pub stands_undone : (s after : State) (es : List Entry) → IsStore s → Undoes s after es → IsBag after.bag → IsStore after
stands_undone s after es st u b =
    let back = goes_back s after.done es st u.done in
    let matches = not_mismatched s.bag (inverse_of es) back.2 in
    let Back : LimitedCollection → Type 0 = λ bag. CanGoBack bag (reverse after.done) in
    let On : LimitedCollection → Type 0 = λ bag. CanGoOn bag (es ∷ reverse s.undone) in
    let OnList : List (List Entry) → Type 0 = λ xs. CanGoOn after.bag xs in
    let Later : Collection → Type 0 = λ hs. CanGoOn (with_held s.bag hs) (reverse s.undone) in
    record {
      bag = b;
      can_go_back = subst Back (sym u.bag) back.3;
      can_go_on = subst OnList (sym (ap reverse u.undone ∙ reverse_push s.undone es))
          (subst On (sym u.bag) (
            back.0,
            back.1,
            taken_again s.bag es st.bag back.0 back.2,
            subst Later (sym (forth_again s.bag es st.bag.rises back.0 matches)) st.can_go_on,
          ));
      room =
          let within_limit = st.room in
          let limits = ap (λ (bag : LimitedCollection). changes_limit bag.limits) u.bag in
          omega (
            arith,
            within_limit,
            limits,
            ap length u.done,
            ap length u.undone,
            length-append after.done (es ∷ []),
            length-append s.undone (es ∷ []),
          );
    }

pub history_undone : (s after : State) (es : List Entry) → IsStore s → Undoes s after es → history_of after ≡ one_back (history_of s)
history_undone s after es st u =
    let back = goes_back s after.done es st u.done in
    let matches = not_mismatched s.bag (inverse_of es) back.2 in
    let prev = changed s.bag.held (inverse_of es) in
    let held_is : after.bag.held ≡ prev = ap (λ (bag : LimitedCollection). bag.held) u.bag in
    ap₂ (λ (collections : List Collection) (cursor : ℕ). let h : History = record { collections = collections; cursor = cursor } in h)
    (ap (λ k. earlier k (reverse after.done) ++ k ∷ later k (reverse after.undone)) held_is
    ∙ ap (λ xs. earlier prev (reverse after.done) ++ prev ∷ later prev (reverse xs)) u.undone
    ∙ collections_undone s.bag.held prev es after.done s.undone refl (forth_again s.bag es st.bag.rises back.0 matches)
    ∙ ap (λ xs. earlier s.bag.held (reverse xs) ++ s.bag.held ∷ later s.bag.held (reverse s.undone)) (sym u.done))
    (let grown = ap length u.done in omega (arith, grown, length-append after.done (es ∷ [])))

-- ---- a redo

-- the last undone change of the first store is done again in the second
pub record Redoes (s after : State) (es : List Entry) : Type 0 where
  pub bag : after.bag ≡ with_held s.bag (changed s.bag.held es)
  pub done : after.done ≡ s.done ++ es ∷ []
  pub undone : s.undone ≡ after.undone ++ es ∷ []

-- a step that shifts the last undone change back, and does it again to the bag
pub redoes_shifted : (s after : State) (last : List Entry) (number : ℕ) (shifted : IsShifted s.undone s.done after.undone after.done number)
    → Some last ≡ slice_get s.undone (length s.undone - 1) → after.bag ≡ with_held s.bag (changed s.bag.held last)
    → Redoes s after shifted.last
redoes_shifted s after last number shifted found is = record {
  bag = is ∙ ap (λ es. with_held s.bag (changed s.bag.held es)) (same_last s.undone after.undone last shifted.last shifted.taken found);
  done = shifted.put;
  undone = shifted.taken;
}

-- a store can go on over its last undone change
pub goes_on : (s : State) (front : List (List Entry)) (es : List Entry) → IsStore s → s.undone ≡ front ++ es ∷ []
    → CanGoOn s.bag (es ∷ reverse front)
goes_on s front es st is =
    let On : List (List Entry) → Type 0 = λ xs. CanGoOn s.bag xs in
    subst On (ap reverse is ∙ reverse_push front es) st.can_go_on

pub stands_redone : (s after : State) (es : List Entry) → IsStore s → Redoes s after es → IsBag after.bag → IsStore after
stands_redone s after es st r b =
    let on = goes_on s after.undone es st r.undone in
    let Back : LimitedCollection → Type 0 = λ bag. CanGoBack bag (reverse (s.done ++ es ∷ [])) in
    let BackList : List (List Entry) → Type 0 = λ xs. CanGoBack after.bag (reverse xs) in
    let On : LimitedCollection → Type 0 = λ bag. CanGoOn bag (reverse after.undone) in
    record {
      bag = b;
      can_go_back = subst BackList (sym r.done) (subst Back (sym r.bag) (back_over s.bag s.done es st.bag st.can_go_back on.0 on.1 on.2));
      can_go_on = subst On (sym r.bag) on.3;
      room =
          let within_limit = st.room in
          let limits = ap (λ (bag : LimitedCollection). changes_limit bag.limits) r.bag in
          omega (
            arith,
            within_limit,
            limits,
            ap length r.done,
            ap length r.undone,
            length-append s.done (es ∷ []),
            length-append after.undone (es ∷ []),
          );
    }

-- a redo is undone by going back, so the history is the same
undoes_redo : (s after : State) (es : List Entry) → IsStore s → Redoes s after es → Undoes after s es
undoes_redo s after es st r =
    let on = goes_on s after.undone es st r.undone in
    record {
      bag = sym (ap (λ bag. with_held bag (changed bag.held (inverse_of es))) r.bag
          ∙ ap (λ hs. with_held s.bag hs) (changed_back s.bag es st.bag.rises on.0 (not_mismatched s.bag es on.2)));
      done = r.done;
      undone = r.undone;
    }

pub history_redone : (s after : State) (es : List Entry) → IsStore s → Redoes s after es → IsBag after.bag
    → history_of after ≡ one_on (history_of s)
history_redone s after es st r b =
    let was = history_undone after s es (stands_redone s after es st r b) (undoes_redo s after es st r) in
    ap₂ (λ (collections : List Collection) (cursor : ℕ). let h : History = record { collections = collections; cursor = cursor } in h)
    (ap (λ (h : History). h.collections) (sym was))
    (ap length r.done ∙ length-append s.done (es ∷ []))

-- ---- the cursor alone

pub history_alone : (s : State) → alone s.bag.held ≡ cursor_alone (history_of s)
history_alone s =
    let before = earlier s.bag.held (reverse s.done) in
    let after = s.bag.held ∷ later s.bag.held (reverse s.undone) in
    let place = length-earlier s.bag.held (reverse s.done) ∙ length-reverse s.done in
    let at_cursor = ap (λ k. drop k (before ++ after)) (sym place) ∙ drop-append_seam before after in
    ap (λ hs. let h : History = record { collections = take 1 hs; cursor = 0 } in h) (sym at_cursor)
