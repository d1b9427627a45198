-- Numbers of a list, each where it stands, as a function makes them.
use Rattle.std.proofs.Common.{◌≡◌, ℕ, zero, suc, ◌+◌, ◌<◌, List, ◌∷◌, [], ◌++◌, map, take, drop, set, length, get_or, refl, ◌∙◌, ap, arith}

get_unmapped : (f : ℕ → ℕ) (xs : List ℕ) (i d : ℕ) → i < length xs → get_or (map f (take i xs) ++ drop i xs) i d ≡ get_or xs i d
get_unmapped f [] i d lt = absurd (omega arith)
get_unmapped f (x ∷ xs) zero d lt = refl
get_unmapped f (x ∷ xs) (suc i) d lt = get_unmapped f xs i d (omega arith)

set_mapped : (f : ℕ → ℕ) (xs : List ℕ) (i d : ℕ) → i < length xs
    → set (map f (take i xs) ++ drop i xs) i (f (get_or xs i d)) ≡ map f (take (suc i) xs) ++ drop (suc i) xs
set_mapped f [] i d lt = absurd (omega arith)
set_mapped f (x ∷ xs) zero d lt = refl
set_mapped f (x ∷ xs) (suc i) d lt = ap (λ ys. f x ∷ ys) (set_mapped f xs i d (omega arith))

-- one more number is as a function makes it, after those before it
pub mapped_next : (f : ℕ → ℕ) (xs ys : List ℕ) (i d : ℕ) → i < length xs → ys ≡ map f (take i xs) ++ drop i xs
    → set ys i (f (get_or ys i d)) ≡ map f (take (i + 1) xs) ++ drop (i + 1) xs
mapped_next f xs ys i d lt is =
    let more : suc i ≡ i + 1 = omega arith in
    ap (λ zs. set zs i (f (get_or zs i d))) is
    ∙ ap (λ n. set (map f (take i xs) ++ drop i xs) i (f n)) (get_unmapped f xs i d lt)
    ∙ set_mapped f xs i d lt
    ∙ ap (λ k. map f (take k xs) ++ drop k xs) more
