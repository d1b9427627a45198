-- Lines that are gathered before they are put.
use Rattle.std.proofs.Common.{◌≡◌, ℕ, ◌+◌, List, [], ◌∷◌, ◌++◌, take, drop, Some, Result, Ok, Err, sym, ap, ap₂, ◌∙◌, refl, subst, append_assoc, ◌≤◌, append-nil, length, arith}
use Rattle.std.specs.Prelude.{flat_map, IsErr, slice_get}
use Rattle.s2ix_text_parts.specs.Puts.{Writes}
use Rattle.s2ix_text_parts.specs.declared.sink.Sink.{Ghosts as Sink}
use Rattle.s2ix_text_parts.specs.declared.sink.WriteFault.{WriteFault}
use Rattle.std.proofs.KnownBytes.{Appends-nil}
use Rattle.std.proofs.lemmas.Bool.{false≢true}
use Rattle.std.proofs.lemmas.List.{take-append-drop, take_all}
use Rattle.std.proofs.lemmas.List.Concat.{flat_map-append}
use Rattle.s2ix_text_parts.proofs.Prefixes.{flat_map-take_more}
use Rattle.s2ix_text_parts.proofs.Writing.{Writes-cut, Writes-then}
use Rattle.s2ix_text_write.specs.Gathered.{Gathers, IsGathered}
use Rattle.s2ix_text_write.specs.Lists.{end_of_list, list_text}

module _ {K : Type 0} {sink : Sink K} where
  -- nothing is gathered at first
  pub gathered_first : {old : K} {rest : List ℕ} → rest ≡ [] → IsGathered sink old old [] rest
  gathered_first {old} {rest} none = record {
    front = [];
    whole = sym none;
    wrote = record { puts = Appends-nil (sink.taken old); unflushed = refl; faults = omega arith };
  }

  -- all that was gathered is put, and nothing is gathered then
  pub all_put : {old new : K} {text : List ℕ} → Writes {A = Unit {0}} sink old new (Ok tt) text → IsGathered sink old new text []
  all_put {old} {new} {text} put = record { front = text; whole = sym (append-nil text); wrote = put }

  -- a text comes after what is gathered, and stays there
  pub gathered_after : {old new : K} {before mid after : List ℕ} (text : List ℕ) → IsGathered sink old new before mid → after ≡ mid ++ text
      → IsGathered sink old new (before ++ text) after
  gathered_after {old} {new} {before} {mid} {after} text was is = record {
    front = was.front;
    whole = ap (λ t. t ++ text) was.whole ∙ append_assoc was.front mid text ∙ ap (λ t. was.front ++ t) (sym is);
    wrote = was.wrote;
  }

  -- the sink failed in what was gathered before a text
  pub failed_before : {A B : Type 0} {old new : K} {fault : WriteFault} {before : List ℕ} (after text : List ℕ) (r : Result B WriteFault)
      → IsErr r → Writes {A = A} sink old new (Err fault) before → Gathers sink old new r before after text
  failed_before after text (Ok x) is p = absurd (false≢true is)
  failed_before after text (Err e) is p = Writes-cut (Err e) text is p

  -- a text comes after what is gathered, and all of it is put
  pub gathered_last : {A : Type 0} {old mid new : K} {before rest : List ℕ} (text : List ℕ) {r : Result A WriteFault}
      → IsGathered sink old mid before rest → Writes sink mid new r (rest ++ text)
      → Writes sink old new r (before ++ text)
  gathered_last {A} {old} {mid} {new} {before} {rest} text {r} was put =
      subst (λ (t : List ℕ). Writes sink old new r t) (sym (ap (λ t. t ++ text) was.whole ∙ append_assoc was.front rest text))
      (Writes-then was.wrote put)

  -- the same, where nothing comes after it
  pub put_out : {A : Type 0} {old mid new : K} {text rest : List ℕ} {r : Result A WriteFault}
      → IsGathered sink old mid text rest → Writes sink mid new r rest
      → Writes sink old new r text
  put_out {A} {old} {mid} {new} {text} {rest} {r} was put =
      subst (λ (t : List ℕ). Writes sink old new r t) (sym was.whole) (Writes-then was.wrote put)

  -- one text after the other is gathered
  pub gathered_then : {old mid new : K} {before rest after : List ℕ} (text : List ℕ)
      → IsGathered sink old mid before rest → IsGathered sink mid new (rest ++ text) after
      → IsGathered sink old new (before ++ text) after
  gathered_then {old} {mid} {new} {before} {rest} {after} text was more = record {
    front = was.front ++ more.front;
    whole =
        ap (λ t. t ++ text) was.whole ∙ append_assoc was.front rest text ∙ ap (λ t. was.front ++ t) more.whole
        ∙ sym (append_assoc was.front more.front after);
    wrote = Writes-then was.wrote more.wrote;
  }

  -- one item more is gathered
  pub gathered_item : {X : Type 0} (f : X → List ℕ) (xs : List X) (place : ℕ) (x : X) {old mid new : K} {rest after : List ℕ}
      → slice_get xs place ≡ Some x
      → IsGathered sink old mid (flat_map f (take place xs)) rest → IsGathered sink mid new (rest ++ f x) after
      → IsGathered sink old new (flat_map f (take (place + 1) xs)) after
  gathered_item f xs place x {old} {mid} {new} {rest} {after} at was more =
      subst (λ (t : List ℕ). IsGathered sink old new t after) (sym (flat_map-take_more f xs place x at)) (gathered_then (f x) was more)

  -- one item more of an iterator is gathered
  pub yielded_item : {X : Type 0} (f : X → List ℕ) (front : List X) (x : X) {old mid new : K} {rest after : List ℕ}
      → IsGathered sink old mid (flat_map f front) rest → IsGathered sink mid new (rest ++ f x) after
      → IsGathered sink old new (flat_map f (front ++ x ∷ [])) after
  yielded_item f front x {old} {mid} {new} {rest} {after} was more =
      subst (λ (t : List ℕ). IsGathered sink old new t after)
      (sym (flat_map-append f front (x ∷ []) ∙ ap (λ t. flat_map f front ++ t) (append-nil (f x)))) (gathered_then (f x) was more)

  -- the sink failed in an item of an iterator or before it
  pub yielded_fault : {X A B : Type 0} (f : X → List ℕ) (xs front back : List X) (x : X) {old mid new : K} {rest : List ℕ}
      {fault : WriteFault} (r : Result B WriteFault)
      → IsErr r → front ++ x ∷ back ≡ xs
      → IsGathered sink old mid (flat_map f front) rest → Writes {A = A} sink mid new (Err fault) (rest ++ f x)
      → Writes sink old new r (flat_map f xs)
  yielded_fault {X} {A} {B} f xs front back x {old} {mid} {new} {rest} {fault} r is all was put =
      let failed : Writes {A = A} sink old new (Err fault) (flat_map f front ++ f x) = gathered_last (f x) was put in
      let whole : (flat_map f front ++ f x) ++ flat_map f back ≡ flat_map f xs =
      append_assoc (flat_map f front) (f x) (flat_map f back) ∙ sym (flat_map-append f front (x ∷ back)) ∙ ap (flat_map f) all in
      subst (λ (t : List ℕ). Writes sink old new r t) whole (Writes-cut r (flat_map f back) is failed)

  -- the sink failed in an item or before it
  pub gathered_fault : {X A B : Type 0} (f : X → List ℕ) (xs : List X) (place : ℕ) (x : X) {old mid new : K} {rest : List ℕ}
      {fault : WriteFault} (r : Result B WriteFault)
      → IsErr r → slice_get xs place ≡ Some x
      → IsGathered sink old mid (flat_map f (take place xs)) rest → Writes {A = A} sink mid new (Err fault) (rest ++ f x)
      → Writes sink old new r (flat_map f xs)
  gathered_fault {X} {A} {B} f xs place x {old} {mid} {new} {rest} {fault} r is at was put =
      let more = flat_map f (take (place + 1) xs) in
      let failed : Writes {A = A} sink old new (Err fault) more =
      subst (λ (t : List ℕ). Writes {A = A} sink old new (Err fault) t) (sym (flat_map-take_more f xs place x at)) (gathered_last (f x) was put) in
      let whole : more ++ flat_map f (drop (place + 1) xs) ≡ flat_map f xs =
      sym (flat_map-append f (take (place + 1) xs) (drop (place + 1) xs)) ∙ ap (flat_map f) (take-append-drop (place + 1) xs) in
      subst (λ (t : List ℕ). Writes sink old new r t) whole (Writes-cut r (flat_map f (drop (place + 1) xs)) is failed)

  -- the last line comes after all items
  pub list_put : {X A : Type 0} (f : X → List ℕ) (xs : List X) (place : ℕ) {old mid new : K} {rest : List ℕ} {r : Result A WriteFault}
      → place ≡ length xs → IsGathered sink old mid (flat_map f (take place xs)) rest
      → Writes sink mid new r (rest ++ end_of_list place) → Writes sink old new r (list_text f xs)
  unfolding list_text
  list_put f xs place {old} {mid} {new} {rest} {r} end was put =
      subst (λ (t : List ℕ). Writes sink old new r t)
      (ap₂ (λ a n. flat_map f a ++ end_of_list n) (take_all place xs (omega (arith, end))) end)
      (gathered_last (end_of_list place) was put)

  -- the sink failed in an item of a list or before it
  pub list_fault : {X A B : Type 0} (f : X → List ℕ) (xs : List X) (place : ℕ) (x : X) {old mid new : K} {rest : List ℕ}
      {fault : WriteFault} (r : Result B WriteFault)
      → IsErr r → slice_get xs place ≡ Some x
      → IsGathered sink old mid (flat_map f (take place xs)) rest → Writes {A = A} sink mid new (Err fault) (rest ++ f x)
      → Writes sink old new r (list_text f xs)
  unfolding list_text
  list_fault {X} {A} {B} f xs place x {old} {mid} {new} {rest} {fault} r is at was put =
      Writes-cut r (end_of_list (length xs)) is (gathered_fault {A = A} {B = A} f xs place x (Err fault) refl at was put)

  -- ---- items after what was gathered before them

  -- none of them
  pub after_none : {old : K} (before : List ℕ) → IsGathered sink old old (before ++ []) before
  after_none {old} before = record {
    front = [];
    whole = append-nil before;
    wrote = record { puts = Appends-nil (sink.taken old); unflushed = refl; faults = omega arith };
  }

  -- one more
  pub after_item : {X : Type 0} (before : List ℕ) (f : X → List ℕ) (xs : List X) (place : ℕ) (x : X) {old mid new : K}
      {rest after : List ℕ} → slice_get xs place ≡ Some x
      → IsGathered sink old mid (before ++ flat_map f (take place xs)) rest → IsGathered sink mid new (rest ++ f x) after
      → IsGathered sink old new (before ++ flat_map f (take (place + 1) xs)) after
  after_item before f xs place x {old} {mid} {new} {rest} {after} at was more =
      subst (λ (t : List ℕ). IsGathered sink old new t after)
      (append_assoc before (flat_map f (take place xs)) (f x) ∙ ap (λ t. before ++ t) (sym (flat_map-take_more f xs place x at)))
      (gathered_then (f x) was more)

  -- all of them
  pub after_all : {X : Type 0} (before : List ℕ) (f : X → List ℕ) (xs : List X) (place : ℕ) {old new : K} {rest : List ℕ}
      → length xs ≤ place → IsGathered sink old new (before ++ flat_map f (take place xs)) rest
      → IsGathered sink old new (before ++ flat_map f xs) rest
  after_all before f xs place {old} {new} {rest} end was =
      subst (λ (t : List ℕ). IsGathered sink old new t rest) (ap (λ t. before ++ flat_map f t) (take_all place xs end)) was

  -- the sink failed in one or before it
  pub after_fault : {X A B : Type 0} (before after : List ℕ) (f : X → List ℕ) (xs : List X) (place : ℕ) (x : X) {old mid new : K}
      {rest : List ℕ} {fault : WriteFault} (r : Result B WriteFault)
      → IsErr r → slice_get xs place ≡ Some x
      → IsGathered sink old mid (before ++ flat_map f (take place xs)) rest → Writes {A = A} sink mid new (Err fault) (rest ++ f x)
      → Gathers sink old new r before after (flat_map f xs)
  after_fault before after f xs place x (Ok y) is at was put = absurd (false≢true is)
  after_fault {X} {A} {B} before after f xs place x {old} {mid} {new} {rest} {fault} (Err e) is at was put =
      let more = flat_map f (take (place + 1) xs) in
      let to_here : (before ++ flat_map f (take place xs)) ++ f x ≡ before ++ more =
      append_assoc before (flat_map f (take place xs)) (f x) ∙ ap (λ t. before ++ t) (sym (flat_map-take_more f xs place x at)) in
      let failed : Writes {A = A} sink old new (Err fault) (before ++ more) =
      subst (λ (t : List ℕ). Writes {A = A} sink old new (Err fault) t) to_here (gathered_last (f x) was put) in
      let whole : (before ++ more) ++ flat_map f (drop (place + 1) xs) ≡ before ++ flat_map f xs =
      append_assoc before more (flat_map f (drop (place + 1) xs))
      ∙ ap (λ t. before ++ t) (sym (flat_map-append f (take (place + 1) xs) (drop (place + 1) xs)) ∙ ap (flat_map f) (take-append-drop (place + 1) xs)) in
      subst (λ (t : List ℕ). Writes {A = B} sink old new (Err e) t) whole
      (Writes-cut (Err e) (flat_map f (drop (place + 1) xs)) is failed)
