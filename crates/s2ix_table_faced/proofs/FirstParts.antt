-- The first part of each face.
use Rattle.std.proofs.Common.{◌≡◌, ℕ, suc, ◌+◌, ◌-◌, ◌<◌, ◌≤◌, inl, inr, List, length, slice_index_or, take, drop, sym, ◌∙◌, ap, arith, subst, AllPairs, Contains}
use Rattle.std.proofs.lemmas.Bool.{cases_eq, cases_lt}
use Rattle.std.proofs.lemmas.List.{get_or-map, length-map, get_or_default}
use Rattle.s2id_core.specs.declared.cell_id.CellId.{CellId}
use Rattle.s2id_core.specs.CellId.{raw_of}
use Rattle.s2ix_table_walk.specs.Table.{leaf_end}
use Rattle.s2ix_table_walk.proofs.OnFaces.{six_faces}
use Rattle.s2ix_table_spans.specs.SpanTable.{SpanRanges}
use Rattle.s2ix_table_spans.specs.Starts.{IsAmong, IsLastStart}
use Rattle.s2ix_table_faced.specs.declared.offset.Offset.{Offset}
use Rattle.s2ix_table_parts.specs.FaceSpans.{face_begin, no_table, table_of}
use Rattle.s2ix_table_kept.specs.Faces.{held_on}
use Rattle.s2ix_table_faced.specs.FirstParts.{AreFirstParts}
use Rattle.s2ix_table_parts.specs.Neighbours.{held_in, AreNeighbours}
use Rattle.s2ix_bag_pairs.specs.Collection.{Collection}
use Rattle.s2ix_table_faced.specs.Whole.{AreJoined}
use Rattle.s2ix_table_parts.proofs.Cuts.{cut, cut_is, cut_to, cut_end, cut_rises, between}
use Rattle.s2ix_table_parts.proofs.InSpans.{raw_on_face}
use Rattle.s2ix_table_faced.proofs.OnFaces.{held_between}

-- ---- the part that a face begins

-- a start that is looked for is the last one by it
pub start_found : (starts : List ℕ) (leaf k : ℕ) → AllPairs (λ a b. a < b) starts → Contains starts leaf → IsLastStart starts leaf k
    → slice_index_or starts k 0 ≡ leaf
start_found starts leaf k rises c last =
    let m = c.0 in
    let within = c.1 in
    let is : slice_index_or starts m 0 ≡ leaf = get_or_default starts m 0 leaf within ∙ c.2 in
    let listed = last.within in
    let by = last.by in
    elim (cases_eq m k) [
      | inl e ↦ ap (λ n. slice_index_or starts n 0) (sym e) ∙ is
      | inr ne ↦
          elim (cases_lt m k) [
            | inl less ↦ (let lt = rises m k 0 less listed in omega arith)
            | inr le ↦
                (let next = last.next (omega (arith, ne)) in
                elim (cases_eq m (k + 1)) [
                  | inl e ↦ (let same = ap (λ n. slice_index_or starts n 0) e in absurd (omega arith))
                  | inr apart ↦ (let lt = rises (k + 1) m 0 (omega (arith, ne, apart)) within in absurd (omega arith))
                ])
          ]
    ]

-- ---- what the numbers of first parts say

abbrev pub first_of_face : List ℕ → ℕ → ℕ
first_of_face faces face = slice_index_or faces face 0

pub start_of : {parts : List SpanRanges} {heavy : Collection} {starts : List ℕ} {offsets : List Offset} {count : ℕ} (i : ℕ)
    → AreJoined parts heavy starts offsets count → i < length parts → slice_index_or starts i 0 ≡ cut i 1 parts
start_of {parts} {heavy} {starts} {offsets} {count} i are lt =
    ap (λ ns. slice_index_or ns i 0) are.starts_are
    ∙ get_or-map (λ (t : SpanRanges). t.from) parts i no_table 0 lt
    ∙ cut_is i 1 parts leaf_end no_table are.neighbours lt

pub length_starts : {parts : List SpanRanges} {heavy : Collection} {starts : List ℕ} {offsets : List Offset} {count : ℕ}
    → AreJoined parts heavy starts offsets count → length starts ≡ length parts
length_starts {parts} {heavy} {starts} {offsets} {count} are = ap length are.starts_are ∙ length-map parts (λ (t : SpanRanges). t.from)

-- a face begins where its first part does
pub face_cut : {parts : List SpanRanges} {heavy : Collection} {starts : List ℕ} {offsets : List Offset} {faces : List ℕ} {count : ℕ} (face : ℕ)
    → AreJoined parts heavy starts offsets count → AreFirstParts starts faces → face ≤ 6
    → (first_of_face faces face ≤ length parts) × (cut (first_of_face faces face) 1 parts ≡ face_begin face)
face_cut {parts} {heavy} {starts} {offsets} {faces} {count} face are firsts le =
    let many = length_starts are in
    elim (cases_lt face 6) [
      | inl lt ↦
          (let listed = firsts.listed face lt in
          let begins = firsts.begins face lt in
          let start = start_of (first_of_face faces face) are (omega arith) in
          (omega arith, sym start ∙ begins))
      | inr past ↦
          (let e : face ≡ 6 = omega arith in
          let all = ap (first_of_face faces) e ∙ firsts.end ∙ many in
          (omega (arith, all), cut_end (first_of_face faces face) 1 parts leaf_end are.neighbours all ∙ ap face_begin (sym e)))
    ]

-- each face has a part
pub faces_rise : {parts : List SpanRanges} {heavy : Collection} {starts : List ℕ} {offsets : List Offset} {faces : List ℕ} {count : ℕ} (face : ℕ)
    → AreJoined parts heavy starts offsets count → AreFirstParts starts faces → face < 6 → first_of_face faces face < first_of_face faces (face + 1)
faces_rise {parts} {heavy} {starts} {offsets} {faces} {count} face are firsts lt =
    let one = face_cut face are firsts (omega arith) in
    let next = face_cut (face + 1) are firsts (omega arith) in
    elim (cases_lt (first_of_face faces face) (first_of_face faces (face + 1))) [
      | inl less ↦ less
      | inr le ↦
          (let rises = cut_rises (first_of_face faces (face + 1)) (first_of_face faces face) 1 parts leaf_end are.neighbours le one.0 in
          absurd (omega (arith, one.1, next.1)))
    ]

-- a part ends where the next one begins, and the last one with the last leaf
pub end_of : {parts : List SpanRanges} {heavy : Collection} {starts : List ℕ} {offsets : List Offset} {count : ℕ} (part : ℕ)
    → AreJoined parts heavy starts offsets count → part < length parts
    → (part + 1 < length parts → slice_index_or starts (part + 1) 0 ≡ (table_of parts part).to)
    × (part + 1 ≡ length parts → leaf_end ≡ (table_of parts part).to)
end_of {parts} {heavy} {starts} {offsets} {count} part are lt =
    let to = cut_to part 1 parts leaf_end no_table are.neighbours lt in
    let same = ap (λ n. cut n 1 parts) (let e : part + 1 ≡ suc part = omega arith in e) in (
      λ less. let start = start_of (part + 1) are less in omega arith,
      λ all. let end = cut_end (suc part) 1 parts leaf_end are.neighbours (omega arith) in omega arith,
    )

-- the last of some parts that have a leaf among them ends after it
pub leaf_before_end : {parts : List SpanRanges} {heavy : Collection} {starts : List ℕ} {offsets : List Offset} {count : ℕ} (leaf first size last : ℕ)
    → AreJoined parts heavy starts offsets count → IsAmong starts leaf first size → leaf < leaf_end → last + 1 ≡ first + size
    → leaf < (table_of parts last).to
leaf_before_end {parts} {heavy} {starts} {offsets} {count} leaf first size last are among lt is =
    let many = length_starts are in
    let within = among.within in
    let ends = end_of last are (omega arith) in
    elim (cases_lt (last + 1) (length parts)) [
      | inl less ↦
          (let begins = ends.0 less in
          let after = among.after (omega arith) in
          let same = ap (λ n. slice_index_or starts n 0) is in
          omega arith)
      | inr past ↦ (let end = ends.1 (omega arith) in omega arith)
    ]

-- the last part that begins by a leaf has it
pub record HasLeaf (span : SpanRanges) (leaf : ℕ) : Type 0 where
  pub from : span.from ≤ leaf
  pub to : leaf < span.to

pub leaf_in : {parts : List SpanRanges} {heavy : Collection} {starts : List ℕ} {offsets : List Offset} {count : ℕ} (leaf : CellId) (part : ℕ)
    → AreJoined parts heavy starts offsets count → IsLastStart starts (raw_of leaf) part → HasLeaf (table_of parts part) (raw_of leaf)
leaf_in {parts} {heavy} {starts} {offsets} {count} leaf part are last =
    let many = length_starts are in
    let listed = last.within in
    let by = last.by in
    let six = six_faces leaf in
    let on = raw_on_face leaf in
    let start = start_of part are (omega arith) in
    let begins = cut_is part 1 parts leaf_end no_table are.neighbours (omega arith) in
    let ends = cut_to part 1 parts leaf_end no_table are.neighbours (omega arith) in
    let to : raw_of leaf < cut (suc part) 1 parts = elim (cases_lt (part + 1) (length starts)) [
      | inl less ↦
          (let next = last.next less in
          let later = start_of (part + 1) are (omega arith) in
          let same = ap (λ n. cut n 1 parts) (let e : part + 1 ≡ suc part = omega arith in e) in
          omega arith)
      | inr past ↦
          (let all = cut_end (suc part) 1 parts leaf_end are.neighbours (omega arith) in
          omega (arith, on.1))
    ] in
    record { from = omega arith; to = omega arith }

-- the parts of a face
pub record FaceParts (parts own : List SpanRanges) (faces : List ℕ) (face : ℕ) : Type 0 where
  pub rise : first_of_face faces face ≤ first_of_face faces (face + 1)
  pub within : first_of_face faces (face + 1) ≤ length parts
  pub neighbours : AreNeighbours (face_begin face) own (face_begin (face + 1))
  pub pairs : held_in own ≡ held_on face (held_in parts)

pub face_parts : {parts : List SpanRanges} {heavy : Collection} {starts : List ℕ} {offsets : List Offset} {faces : List ℕ} {count : ℕ} (face : ℕ)
    → AreJoined parts heavy starts offsets count → AreFirstParts starts faces → face < 6
    → FaceParts parts (take (first_of_face faces (face + 1) - first_of_face faces face) (drop (first_of_face faces face) parts)) faces face
face_parts {parts} {heavy} {starts} {offsets} {faces} {count} face are firsts lt =
    let rises = faces_rise face are firsts lt in
    let one = face_cut face are firsts (omega arith) in
    let next = face_cut (face + 1) are firsts (omega arith) in
    let first = first_of_face faces face in
    let n : ℕ = first_of_face faces (face + 1) - first in
    let end : first_of_face faces (face + 1) ≡ first + n = omega arith in
    let last : cut (first + n) 1 parts ≡ face_begin (face + 1) = ap (λ k. cut k 1 parts) (sym end) ∙ next.1 in
    let within : first + n ≤ length parts = omega (arith, next.0) in
    record {
      rise = omega arith;
      within = next.0;
      neighbours =
          subst (λ m. AreNeighbours m (take n (drop first parts)) (face_begin (face + 1))) one.1
          (subst (λ m. AreNeighbours (cut first 1 parts) (take n (drop first parts)) m) last
          (between first n 1 parts leaf_end are.neighbours within));
      pairs = held_between face first n 1 parts leaf_end are.neighbours within one.1 last;
    }
