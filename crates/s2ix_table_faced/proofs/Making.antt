-- The parts of a table, face by face.
use Rattle.std.proofs.Common.{ℕ, ◌+◌, ◌<◌, inl, inr, List, [], ◌∷◌, ◌++◌, sym, arith, Contains, subst}
use Rattle.std.proofs.lemmas.Bool.{cases_eq}
use Rattle.std.proofs.lemmas.List.{map-append}
use Rattle.std.proofs.lemmas.List.Elements.{Contains-append_left, Contains-append_right}
use Rattle.s2id_core.proofs.Lists.{at_head}
use Rattle.s2ix_table_spans.specs.SpanTable.{SpanRanges}
use Rattle.s2ix_table_parts.specs.FaceSpans.{face_begin, starts_of}
use Rattle.s2ix_table_parts.specs.Neighbours.{AreNeighbours}

pub begins_next : (face : ℕ) (more : List SpanRanges) → AreNeighbours (face_begin face) more (face_begin (face + 1))
    → Contains (starts_of more) (face_begin face)
begins_next face [] are = absurd (omega (arith, are))
begins_next face (t ∷ ts) are = subst (Contains (starts_of (t ∷ ts))) are.0 (at_head t.from (starts_of ts))

pub begins_all : (face : ℕ) (parts more : List SpanRanges) → ((f : ℕ) → f < face → Contains (starts_of parts) (face_begin f))
    → Contains (starts_of more) (face_begin face) → (f : ℕ) → f < face + 1 → Contains (starts_of (parts ++ more)) (face_begin f)
begins_all face parts more begins next f lt =
    let both = sym (map-append (λ (t : SpanRanges). t.from) parts more) in
    elim (cases_eq f face) [
      | inl e ↦
          subst (λ ns. Contains ns (face_begin f)) both
          (Contains-append_right (starts_of parts) (starts_of more) (face_begin f)
          (subst (λ n. Contains (starts_of more) (face_begin n)) (sym e) next))
      | inr ne ↦
          subst (λ ns. Contains ns (face_begin f)) both
          (Contains-append_left (starts_of parts) (starts_of more) (face_begin f) (begins f (omega (arith, ne))))
    ]
