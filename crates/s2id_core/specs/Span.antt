-- A cell as a span of leaf numbers, which are odd: from that of its first leaf up to, and without, an end.
use Rattle.std.specs.Prelude.{ℕ, ◌+◌, ◌≤◌}
use Rattle.s2id_core.specs.Path.{number_of, path_at, first_leaf, last_leaf}

-- the number of the first leaf of the cell of a number
unfoldable pub first_at : ℕ → ℕ
first_at n = number_of (first_leaf (path_at n))

-- the leaf number after that of its last leaf
unfoldable pub end_at : ℕ → ℕ
end_at n = number_of (last_leaf (path_at n)) + 2

-- how many numbers a face has, those of its cells among them: 2 ^ 61, which the code names `FACE_NUMBERS`
abbrev pub face_numbers : ℕ
face_numbers = 2305843009213693952

-- the leaf number after that of the last leaf of face 5, which the code names `LEAF_END`
abbrev pub leaf_end : ℕ
leaf_end = 13835058055282163713

-- the span of one cell's number lies in that of another's
pub record IsNested (inner outer : ℕ) : Type 0 where
  pub from : first_at outer ≤ first_at inner
  pub to : end_at inner ≤ end_at outer
