-- Four levels of the curve at once.
use Rattle.std.specs.Prelude.{◌≡◌, ℕ, ◌<◌}
use Rattle.s2id_core.specs.Path.{last_digits}
use Rattle.s2id_cube.specs.declared.face_ij.FaceIj.{FaceIj}
use Rattle.s2id_cube.specs.Square.{square_after}

-- a square that is not yet cut, through which the curve runs with an orientation
abbrev pub uncut : ℕ → FaceIj
uncut orientation = record { face = 0; i = 0; j = 0; level = 0; orientation = orientation }

-- the square that four child positions lead to, which are the digits of a number below 256 in base 4, the highest first
unfoldable pub four_levels : ℕ → ℕ → FaceIj
four_levels orientation positions = square_after (uncut orientation) (last_digits 4 positions)

-- from an orientation, four child positions lead to column i and row j of 16, and to a new orientation
pub record AreFourLevels (orientation positions i j turned : ℕ) : Type 0 where
  pub below : positions < 256
  pub at_i : (four_levels orientation positions).i ≡ i
  pub at_j : (four_levels orientation positions).j ≡ j
  pub at_orientation : (four_levels orientation positions).orientation ≡ turned
