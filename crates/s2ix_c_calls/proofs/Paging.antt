-- The next row of a page.
use Rattle.std.proofs.Common.{◌≡◌, ◌<◌, ◌≤◌, ◌+◌, ◌-◌, ◌∙◌, ℕ, zero, suc, List, [], ◌∷◌, ◌++◌, length, map, take, drop, ap, sym, refl, Some, slice_set, get_or, arith}
use Rattle.std.proofs.lemmas.List.{drop_more, take_more, take_more_set, get_or-drop, length-drop, length-set, length-take-le, map-append, append_assoc, append-nil, drop-map, take-map}
use Rattle.std.proofs.lemmas.Option.{slice_get_read, slice_get_within, get_or_from_slice_get}
use Rattle.std.specs.List.{slice_get}
use Rattle.s2ix_c_calls.specs.Lists.{IsPut}
use Rattle.s2ix_c_calls.specs.Status.{done}

pub put_next :
    {A B : Type 0} (f : A → B) (out : List B) (xs : List A) (from p : ℕ) (x : A) (r : B)
    → p < length out
    → slice_get xs (from + p) ≡ Some x
    → r ≡ f x
    → take p out ≡ map f (take p (drop from xs))
    → take (p + 1) (slice_set out p r) ≡ map f (take (p + 1) (drop from xs))
put_next f out xs from p x r less is row front =
    let within = slice_get_within xs (from + p) x is in
    let long = length-drop from xs in
    let lt : p < length (drop from xs) = omega arith in
    let same = get_or-drop from xs p x ∙ get_or_from_slice_get xs (from + p) x x is in
    let taken = take_more (drop from xs) p x lt ∙ ap (λ y. take p (drop from xs) ++ y ∷ []) same in
    take_more_set out p r less
    ∙ ap (λ y. take p out ++ y ∷ []) row
    ∙ ap (λ l. l ++ f x ∷ []) front
    ∙ sym (ap (map f) taken ∙ map-append f (take p (drop from xs)) (x ∷ []))

pub nothing_of : {A : Type 0} (room n : ℕ) → take {A = A} room (drop n []) ≡ []
nothing_of zero zero = refl
nothing_of zero (suc n) = refl
nothing_of (suc room) zero = refl
nothing_of (suc room) (suc n) = refl
