-- Which numbers are cells.
use Rattle.std.specs.Prelude.{◌≡◌, ℕ, ◌*◌, ◌<◌, ◌^◌}
use Rattle.s2id_core.specs.Path.{number_of, path_at}

-- A cell's number: the face is below 6, some bit is 1, and the number is that of the path that is read from it.
-- The law `cells_are_paths` says that these are exactly the numbers of paths.
abbrev pub IsCellNumber : ℕ → Type 0
IsCellNumber n = (n < 6 * 2 ^ 61) × (0 < n) × (number_of (path_at n) ≡ n)
