-- Lists that rise by a number, each number once.
use Rattle.std.specs.Prelude.{ℕ, nat_lt, if◌then◌else◌, List, [], ◌∷◌}

-- an element put before the first one with a greater key, unless one with its key is there
unfoldable pub put_once : {X : Type 0} → (X → ℕ) → X → List X → List X
put_once key x [] = x ∷ []
put_once key x (y ∷ ys) =
    if nat_lt (key x) (key y) then x ∷ y ∷ ys
    else if nat_lt (key y) (key x) then y ∷ put_once key x ys
    else y ∷ ys
