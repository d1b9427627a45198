-- A list goes out to the front of a buffer, as far as that has room.
use Rattle.std.proofs.Common.{◌≡◌, ◌<◌, ◌≤◌, ◌+◌, ◌∙◌, ℕ, List, [], ◌∷◌, ◌++◌, length, map, take, drop, ap, sym, refl, inl, inr, slice_set, arith, length-append}
use Rattle.std.proofs.lemmas.Bool.{cases_lt}
use Rattle.std.proofs.lemmas.List.{append-nil, append_assoc, drop_more, length-drop, length-map, length-take-le, take-map, take_all, take_at, take_more_set}
use Rattle.s2ix_c_calls.specs.Lists.{IsFilled, IsPut}
use Rattle.s2ix_c_calls.specs.Status.{done, no_room}

-- one more item goes out
pub goes_out : {A : Type 0} (out : List A) (row x : A) (count : ℕ) (left rest whole : List A) → count < length out → left ≡ x ∷ rest → row ≡ x
    → take count out ++ left ≡ whole → take (count + 1) (slice_set out count row) ++ rest ≡ whole
goes_out out row x count left rest whole less is row_is all =
    ap (λ l. l ++ rest) (take_more_set out count row less)
    ∙ append_assoc (take count out) (row ∷ []) rest
    ∙ ap (λ y. take count out ++ y ∷ rest) row_is
    ∙ ap (λ l. take count out ++ l) (sym is)
    ∙ all

pub empty : {A : Type 0} (xs : List A) → length xs ≡ 0 → xs ≡ []
empty [] none = refl
empty (x ∷ xs) none = absurd (omega arith)

-- so many items of a list are out, and the others have no room, or there are none
module _ {A : Type 0} (list rest : List A) (count : ℕ) (old new : List A) (put : take count new ++ rest ≡ list) (after : drop count new ≡ drop count old)
    (long : length new ≡ length old) (within : count ≤ length old) where
  pub whole : length list ≡ count + length rest
  whole = omega (arith, ap length put, length-append (take count new) rest, length-take-le count new (omega arith))

  none_left : rest ≡ [] → take count new ≡ list
  none_left none = sym (append-nil (take count new)) ∙ ap (λ l. take count new ++ l) (sym none) ∙ put

  pub fills_all : (number : ℕ) → number ≡ count → rest ≡ [] → IsFilled list done number old new
  fills_all number is none = record {
    long = omega (arith, whole, ap length none);
    put = λ _. ap (λ n. take n new) is ∙ none_left none;
    after = λ _. ap (λ n. drop n new) is ∙ after ∙ ap (λ n. drop n old) (sym is);
    short = λ refused. absurd (refused refl);
  }

  module _ (full : count < length old → rest ≡ []) where
    pub fills_front : (number : ℕ) → number ≡ count + length rest → 0 < length rest → IsFilled list no_room number old new
    fills_front number is more =
        let all : count ≡ length old =
        elim (cases_lt count (length old)) [
          | inl less ↦ absurd (omega (arith, ap length (full less)))
          | inr at_least ↦ omega arith
        ] in
        let front : take (length old) list ≡ new =
        ap (take (length old)) (sym put) ∙ take_at (take count new) rest (length old) (length-take-le count new (omega arith) ∙ all)
        ∙ take_all count new (omega arith) in record {
          long = is ∙ sym whole;
          put = λ e. absurd (omega arith);
          after = λ e. absurd (omega arith);
          short = λ _. (refl, omega arith, sym front);
        }

    -- so the items that are out are a page
    pub is_page : take count new ≡ take (length old) list
    is_page = elim (cases_lt count (length old)) [
      | inl less ↦
          let none = full less in none_left none ∙ sym (take_all (length old) list (omega (arith, whole, ap length none)))
      | inr at_least ↦
          let all : count ≡ length old = omega arith in
          sym (ap (take (length old)) (sym put) ∙ take_at (take count new) rest (length old) (length-take-le count new (omega arith) ∙ all))
    ]

pub puts_page : {A B : Type 0} (f : A → B) (xs : List A) (rest : List B) (count : ℕ) (old new : List B) → take count new ++ rest ≡ map f xs
    → drop count new ≡ drop count old → length new ≡ length old → count ≤ length old → (count < length old → rest ≡ [])
    → IsPut (map f (take (length old) xs)) done count old new
puts_page f xs rest count old new put after long within full =
    let same : take count new ≡ map f (take (length old) xs) =
    is_page (map f xs) rest count old new put after long within full ∙ take-map f (length old) xs in record {
      long = sym (length-take-le count new (omega arith)) ∙ ap length same;
      put = λ _. same;
      after = λ _. after;
      short = λ refused. absurd (refused refl);
    }

-- what is left of a list is no longer than the list
pub left_short : {A B : Type 0} (f : A → B) (page : List B) (left xs : List A) → page ++ map f left ≡ map f xs → length left ≤ length xs
left_short f page left xs is = omega (arith, ap length is, length-append page (map f left), length-map left f, length-map xs f)

-- a list of which only the front has room
pub fills_part : {A B : Type 0} (f : A → B) (xs : List A) (count : ℕ) (old new : List B) → count ≡ length old → length old < length xs
    → length new ≡ length old → take count new ≡ map f (take count xs) → IsFilled (map f xs) no_room (length xs) old new
fills_part f xs count old new all more long put = record {
  long = sym (length-map xs f);
  put = λ e. absurd (omega arith);
  after = λ e. absurd (omega arith);
  short = λ _. (
    refl,
    more,
    sym (take_all count new (omega arith)) ∙ put ∙ sym (take-map f count xs) ∙ ap (λ n. take n (map f xs)) all,
  );
}

-- ---- what is left of a list after some of its items

pub passed_one : {A : Type 0} (xs : List A) (k : ℕ) (x : A) (left rest : List A) → left ≡ drop k xs → left ≡ x ∷ rest → drop (k + 1) xs ≡ rest
passed_one xs k x left rest is next =
    let within : k < length xs = omega (arith, ap length next, ap length is, length-drop k xs) in
    let more = sym next ∙ is ∙ drop_more xs k x within in
    sym (cc more)

pub passed_all : {A : Type 0} (xs left : List A) (k n : ℕ) → left ≡ drop k xs → left ≡ [] → k ≤ n → drop n xs ≡ []
passed_all xs left k n is none less = empty (drop n xs) (omega (arith, ap length none, ap length is, length-drop k xs, length-drop n xs))

pub passed_on : {A : Type 0} (xs : List A) (k : ℕ) (left : List A) → left ≡ drop k xs → 0 < length left → drop 1 left ≡ drop (k + 1) xs
passed_on xs k [] is some = absurd (omega arith)
passed_on xs k (x ∷ rest) is some = sym (passed_one xs k x (x ∷ rest) rest is refl)
