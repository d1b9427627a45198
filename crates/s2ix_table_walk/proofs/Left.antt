-- What is left of a list after the items that were taken of it.
use Rattle.std.proofs.Common.{◌≡◌, ◌<◌, ◌≤◌, ℕ, ◌+◌, List, [], ◌∷◌, length, drop, get_or, Some, sym, ap, ◌∙◌, arith}
use Rattle.std.specs.Prelude.{slice_get}
use Rattle.std.proofs.lemmas.List.{drop_more, length-drop}
use Rattle.std.proofs.lemmas.Option.{slice_get-get_or}

-- an item is left: it stands at the number of those that were taken
pub left_first : {X : Type 0} (xs left rest : List X) (k : ℕ) (x : X) → left ≡ drop k xs → left ≡ x ∷ rest
    → (k < length xs) × (slice_get xs k ≡ Some x) × (rest ≡ drop (k + 1) xs)
left_first xs left rest k x after e =
    let within : k < length xs = omega (arith, ap length e, ap length after, length-drop k xs) in
    let split : x ∷ rest ≡ get_or xs k x ∷ drop (k + 1) xs = sym e ∙ after ∙ drop_more xs k x within in
    (within, slice_get-get_or xs k x within ∙ ap Some (sym (ap (λ ys. get_or ys 0 x) split)), ap (drop 1) split)

-- none is left: all were taken
pub left_none : {X : Type 0} (xs left : List X) (k : ℕ) → left ≡ drop k xs → left ≡ [] → length xs ≤ k
left_none xs left k after e = omega (arith, ap length e, ap length after, length-drop k xs)
