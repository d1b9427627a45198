-- Where faces begin.
use Rattle.std.specs.Prelude.{ℕ, ◌+◌, ◌*◌}
use Rattle.s2id_core.specs.Span.{face_numbers}

-- the number of a face's first leaf; after the last face that of the end of the leaves
abbrev pub face_begin : ℕ → ℕ
face_begin face = face * face_numbers + 1
