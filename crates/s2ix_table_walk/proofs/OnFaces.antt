-- Cells lie on their faces.
use Rattle.std.proofs.Common.{◌≡◌, ℕ, ◌+◌, ◌*◌, ◌/◌, ◌%◌, ◌^◌, ◌<◌, ◌≤◌, ◌↔◌, sym, ◌∙◌, ap, arith}
use Rattle.std.proofs.Math.Nat.{div-lt_iff_lt-mul, div-mul-le_self}
use Rattle.s2id_core.specs.declared.cell_id.CellId.{CellId}
use Rattle.s2id_core.specs.CellId.{raw_of, face_of, first_of}
use Rattle.s2id_core.specs.Cell.{IsCellNumber}
use Rattle.s2id_core.specs.Path.{Path, path_at, number_of, first_leaf}
use Rattle.s2id_core.specs.Span.{face_numbers, first_at}
use Rattle.s2id_core.proofs.Bits.{face_by_bits}
use Rattle.s2id_core.proofs.Nested.{span}
use Rattle.s2id_core.proofs.Numbers.{path_of_cell, path_at-number}
use Rattle.s2id_core.proofs.Spans.{leaf_of_first}
use Rattle.s2ix_table_walk.specs.FaceWindows.{face_begin}

-- what a number's face says of it
pub face_bounds : (n face : ℕ) → face ≡ n / face_numbers → (face * face_numbers ≤ n) × (n < (face + 1) * face_numbers)
face_bounds n face is =
    let low : n / face_numbers * face_numbers ≤ n = div-mul-le_self n face_numbers in
    let split : (n / face_numbers < face + 1) ↔ (n < (face + 1) * face_numbers) = div-lt_iff_lt-mul (omega arith) in
    (omega (arith, low, ap (λ f. f * face_numbers) is), split.0 (omega (arith, is)))

pub face_of_first : (n : ℕ) → IsCellNumber n → (path_at n).face ≡ first_at n / 2 ^ 61
unfolding first_at first_leaf
face_of_first n cell =
    let p = path_at n in
    let leaf = leaf_of_first p (path_of_cell n cell) in
    sym (face_by_bits (number_of (first_leaf p)) ∙ ap (λ (q : Path). q.face) (path_at-number (first_leaf p) leaf.deep.path))

-- a cell begins on its face
pub begins_on_face : (c : CellId) → (face_begin (face_of c) ≤ first_of c) × (first_of c < face_begin (face_of c + 1))
begins_on_face c =
    let s = span (raw_of c) c.valid in
    let odd = s.odd in
    let first = face_bounds (first_of c) (face_of c) (face_of_first (raw_of c) c.valid) in
    (from_odd (first_of c) (face_of c) odd first.0, omega (arith, first.1))
  where
    from_odd : (n face : ℕ) → n % 2 ≡ 1 → face * face_numbers ≤ n → face * face_numbers + 1 ≤ n
    from_odd n face odd le = omega arith

-- there are six faces
pub six_faces : (c : CellId) → face_of c < 6
six_faces c = (path_of_cell (raw_of c) c.valid).face_below
