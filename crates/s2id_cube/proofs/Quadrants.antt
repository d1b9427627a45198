-- The tables of the curve, entry by entry.
use Rattle.std.proofs.Common.{◌≡◌, ℕ, ◌+◌, ◌*◌, ◌<◌, List, [], ◌∷◌, get_or, arith}
use Rattle.s2id_cube.specs.Square.{quadrant, turned}
use Rattle.s2id_cube.proofs.Cases.{four_by_four}

pub quadrant_below : (o d : ℕ) → o < 4 → d < 4 → quadrant o d < 4
unfolding quadrant
quadrant_below o d = four_by_four (λ o d. quadrant o d < 4) (omega arith) o d

pub turned_below : (o d : ℕ) → o < 4 → d < 4 → turned o d < 4
unfolding turned
turned_below o d = four_by_four (λ o d. turned o d < 4) (omega arith) o d

-- the child position of each quadrant
abbrev pub positions : List ℕ
positions = 0 ∷ 1 ∷ 3 ∷ 2 ∷ 0 ∷ 3 ∷ 1 ∷ 2 ∷ 2 ∷ 3 ∷ 1 ∷ 0 ∷ 2 ∷ 1 ∷ 3 ∷ 0 ∷ []

pub position_below : (o d : ℕ) → o < 4 → d < 4 → get_or positions (4 * o + d) 0 < 4
position_below o d = four_by_four (λ o d. get_or positions (4 * o + d) 0 < 4) (omega arith) o d

pub quadrant_of_position : (o d : ℕ) → o < 4 → d < 4 → quadrant o (get_or positions (4 * o + d) 0) ≡ d
unfolding quadrant
quadrant_of_position o d = four_by_four (λ o d. quadrant o (get_or positions (4 * o + d) 0) ≡ d) (omega arith) o d

pub position_of_quadrant : (o d : ℕ) → o < 4 → d < 4 → get_or positions (4 * o + quadrant o d) 0 ≡ d
unfolding quadrant
position_of_quadrant o d = four_by_four (λ o d. get_or positions (4 * o + quadrant o d) 0 ≡ d) (omega arith) o d
