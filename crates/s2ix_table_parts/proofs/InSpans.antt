-- Cells lie in the spans of their faces.
use Rattle.std.proofs.Common.{◌≡◌, refl, ℕ, ◌+◌, ◌*◌, ◌/◌, ◌%◌, ◌^◌, ◌<◌, ◌≤◌, sym, ◌∙◌, ap, arith}
use Rattle.s2id_core.specs.declared.cell_id.CellId.{CellId}
use Rattle.s2id_core.specs.CellId.{raw_of, face_of, first_of, end_of}
use Rattle.s2id_core.specs.Cell.{IsCellNumber}
use Rattle.s2id_core.specs.Path.{Path, path_at, number_of, last_leaf}
use Rattle.s2id_core.specs.Span.{face_numbers, end_at}
use Rattle.s2id_core.proofs.Bits.{face_by_bits}
use Rattle.s2id_core.proofs.Nested.{span}
use Rattle.s2id_core.proofs.Numbers.{path_of_cell, path_at-number}
use Rattle.s2id_core.proofs.Spans.{leaf_of_last}
use Rattle.s2ix_bag_pairs.specs.Collection.{Collection}
use Rattle.s2ix_table_walk.proofs.OnFaces.{face_bounds, begins_on_face}
use Rattle.s2ix_table_spans.specs.SpanTable.{IsInSpan}
use Rattle.s2ix_table_parts.specs.FaceSpans.{face_begin, AreOnFace}

face_of_last : (n : ℕ) → IsCellNumber n → (path_at n).face ≡ number_of (last_leaf (path_at n)) / 2 ^ 61
unfolding last_leaf
face_of_last n cell =
    let p = path_at n in
    let leaf = leaf_of_last p (path_of_cell n cell) in
    sym (face_by_bits (number_of (last_leaf p)) ∙ ap (λ (q : Path). q.face) (path_at-number (last_leaf p) leaf.deep.path))

end_is : (n : ℕ) → end_at n ≡ number_of (last_leaf (path_at n)) + 2
unfolding end_at
end_is n = refl

-- a cell lies in the span of its face
pub cell_on_face : (c : CellId) → (face_begin (face_of c) ≤ first_of c) × (end_of c ≤ face_begin (face_of c + 1))
cell_on_face c =
    let s = span (raw_of c) c.valid in
    let odd_end = s.odd_end in
    let last = face_bounds (number_of (last_leaf (path_at (raw_of c)))) (face_of c) (face_of_last (raw_of c) c.valid) in
    let is = end_is (raw_of c) in
    ((begins_on_face c).0, by_last (end_of c) (number_of (last_leaf (path_at (raw_of c)))) (face_of c) is odd_end last.1)
  where
    by_last : (e n face : ℕ) → e ≡ n + 2 → e % 2 ≡ 1 → n < (face + 1) * face_numbers → e ≤ (face + 1) * face_numbers + 1
    by_last e n face is odd lt = omega arith

-- the number of a cell lies in the span of its face
pub raw_on_face : (c : CellId) → (face_begin (face_of c) ≤ raw_of c) × (raw_of c < face_begin (face_of c + 1))
raw_on_face c =
    let s = span (raw_of c) c.valid in
    let from = s.from in
    let to = s.to in
    let on = cell_on_face c in
    (omega (arith, on.0), omega (arith, on.1))

-- pairs on a face lie in its span
pub face_in_span : (face : ℕ) (held : Collection) → AreOnFace face held → IsInSpan held (face_begin face) (face_begin (face + 1))
face_in_span face held on = record {
  odd = omega arith;
  odd_end = omega arith;
  some = omega arith;
  begins = λ h is. let e = on h is in let le = (cell_on_face h.pair.cell).0 in omega (arith, le, ap face_begin e);
  ends = λ h is. let e = on h is in let le = (cell_on_face h.pair.cell).1 in omega (arith, le, ap (λ f. face_begin (f + 1)) e);
}
