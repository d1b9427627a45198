-- The parts that stay when one face changes lie under the same heavy pairs as before.
use Rattle.std.proofs.Common.{◌≡◌, ◌≢◌, ℕ, zero, suc, ◌+◌, ◌-◌, ◌%◌, ◌<◌, ◌≤◌, inl, inr, List, [], ◌∷◌, length, set, take, drop, refl, sym, ◌∙◌, ap, ap₂, arith, subst}
use Rattle.std.proofs.lemmas.Bool.{cases_lt}
use Rattle.std.proofs.lemmas.List.{get_or-set_other, length-drop, length-set}
use Rattle.s2ix_bag_lists.specs.Faces.{all_of}
use Rattle.s2ix_bag_pairs.specs.Collection.{Collection}
use Rattle.s2ix_table_walk.specs.Contents.{contents_at}
use Rattle.s2ix_table_walk.specs.Table.{leaf_end}
use Rattle.s2ix_table_walk.proofs.OnFaces.{face_bounds}
use Rattle.s2ix_table_spans.specs.SpanTable.{SpanRanges}
use Rattle.s2ix_table_faced.specs.declared.offset.Offset.{Offset}
use Rattle.s2ix_table_parts.specs.FaceSpans.{AreOnFace, face_begin}
use Rattle.s2ix_table_faced.specs.FirstParts.{AreFirstParts, parts_of_face}
use Rattle.s2ix_table_parts.specs.Neighbours.{AreNeighbours}
use Rattle.s2ix_table_faced.specs.Layout.{with_over, chunks_on, covered, face_with, heavy_in}
use Rattle.s2ix_table_faced.specs.Whole.{AreJoined}
use Rattle.s2ix_table_parts.proofs.Cuts.{back, front, neighbours_rise}
use Rattle.s2ix_table_faced.proofs.FirstParts.{face_cut, face_parts, first_of_face}
use Rattle.s2ix_table_faced.proofs.HeavyFaces.{contents_there}
use lib.Seq.{length-take-le, set-get_or}

-- a part with these pairs over its ranges
abbrev under : Collection → SpanRanges → SpanRanges
under hs t = record { held = t.held; from = t.from; to = t.to; ranges = with_over hs t.ranges }

abbrev pub AllOnFaces : List (List Collection) → Type 0
AllOnFaces heavy = (face : ℕ) → face < 6 → AreOnFace face (all_of (chunks_on heavy face))

-- no leaf from one number up to another lies on a face
abbrev AreAway : ℕ → ℕ → ℕ → Type 0
AreAway face from to = (q : ℕ) → q % 2 ≡ 1 → from ≤ q → q < to → face_with q ≢ face

away_same : (heavy now : List (List Collection)) (face from : ℕ) (parts : List SpanRanges) (to : ℕ) → length heavy ≡ 6 → length now ≡ 6
    → AllOnFaces heavy → AllOnFaces now → ((other : ℕ) → other ≢ face → chunks_on now other ≡ chunks_on heavy other)
    → AreNeighbours from parts to → to ≤ leaf_end → AreAway face from to → covered (heavy_in now) parts ≡ covered (heavy_in heavy) parts
away_same heavy now face from [] to six six_now on on_now same are last away = refl
away_same heavy now face from (t ∷ ts) to six six_now on on_now same are last away =
    let within = are.1.within in
    let by = neighbours_rise t.to ts to are.2 in
    let start = are.0 in
    let some = within.some in
    let there = same (face_with t.from) (away t.from within.odd (omega arith) (omega arith)) in
    let one = contents_there now t.from six_now on_now within.odd (omega arith)
    ∙ ap (λ chunks. contents_at t.from (all_of chunks)) there
    ∙ sym (contents_there heavy t.from six on within.odd (omega arith)) in
    ap₂ (λ u us. u ∷ us) (ap (λ hs. under hs t) one)
    (away_same heavy now face t.to ts to six six_now on on_now same are.2 last (λ q odd ge lt. away q odd (omega arith) lt))

before_away : (face to : ℕ) → to ≡ face_begin face → AreAway face 1 to
before_away face to begins q odd ge lt here =
    let bounds = face_bounds q face (sym here) in
    absurd (omega (arith, begins, bounds))

behind_away : (face from to : ℕ) → from ≡ face_begin (face + 1) → AreAway face from to
behind_away face from to begins q odd ge lt here =
    let bounds = face_bounds q face (sym here) in
    absurd (omega (arith, begins, bounds))

-- the same heavy pairs put in again
put_again : (heavy : List (List Collection)) (face : ℕ) (chunks : List Collection) → chunks ≡ chunks_on heavy face
    → heavy_in (set heavy face chunks) ≡ heavy_in heavy
put_again heavy face chunks same = ap (λ cs. heavy_in (set heavy face cs)) same ∙ ap heavy_in (set-get_or heavy face [])

pub front_kept : {parts : List SpanRanges} {starts : List ℕ} {offsets : List Offset} {faces : List ℕ} {count : ℕ}
    (heavy : List (List Collection)) (face first : ℕ) (chunks : List Collection) → AreJoined parts (heavy_in heavy) starts offsets count → AreFirstParts starts faces → face < 6 → length heavy ≡ 6
    → AllOnFaces heavy → AllOnFaces (set heavy face chunks) → (0 < first → chunks ≡ chunks_on heavy face)
    → covered (heavy_in (set heavy face chunks)) (take (first_of_face faces face + first) parts)
    ≡ covered (heavy_in heavy) (take (first_of_face faces face + first) parts)
front_kept {parts} {starts} {offsets} {faces} {count} heavy face zero chunks joined firsts lt six on on_now same =
    let cut = face_cut face joined firsts (omega arith) in
    let n : ℕ = first_of_face faces face in
    let all : n + 0 ≡ n = omega arith in
    subst (λ k. covered (heavy_in (set heavy face chunks)) (take k parts) ≡ covered (heavy_in heavy) (take k parts)) (sym all)
    (away_same heavy (set heavy face chunks) face 1 (take n parts) (face_begin face) six (length-set heavy face chunks ∙ six) on on_now
    (λ other ne. get_or-set_other heavy face other chunks [] ne)
    (subst (λ to. AreNeighbours 1 (take n parts) to) cut.1 (front n 1 parts leaf_end joined.neighbours cut.0)) (omega arith)
    (before_away face (face_begin face) refl))
front_kept {parts} {starts} {offsets} {faces} {count} heavy face (suc k) chunks joined firsts lt six on on_now same =
    ap (λ hs. covered hs (take (first_of_face faces face + suc k) parts)) (put_again heavy face chunks (same (omega arith)))

pub back_kept : {parts : List SpanRanges} {starts : List ℕ} {offsets : List Offset} {faces : List ℕ} {count : ℕ}
    (heavy : List (List Collection)) (face end : ℕ) (chunks : List Collection) → AreJoined parts (heavy_in heavy) starts offsets count → AreFirstParts starts faces → face < 6 → length heavy ≡ 6
    → AllOnFaces heavy → AllOnFaces (set heavy face chunks) → end ≤ length (parts_of_face parts faces face)
    → (end < length (parts_of_face parts faces face) → chunks ≡ chunks_on heavy face)
    → covered (heavy_in (set heavy face chunks)) (drop (first_of_face faces face + end) parts)
    ≡ covered (heavy_in heavy) (drop (first_of_face faces face + end) parts)
back_kept {parts} {starts} {offsets} {faces} {count} heavy face end chunks joined firsts lt six on on_now within same =
    let own = face_parts face joined firsts lt in
    let n : ℕ = first_of_face faces face in
    let next : ℕ = first_of_face faces (face + 1) in
    let rise = own.rise in
    let listed = own.within in
    let left = length-drop n parts in
    let long : length (parts_of_face parts faces face) ≡ next - n = length-take-le (next - n) (drop n parts) (omega arith) in
    elim (cases_lt end (length (parts_of_face parts faces face))) [
      | inl some ↦ ap (λ hs. covered hs (drop (n + end) parts)) (put_again heavy face chunks (same some))
      | inr none ↦
          (let cut = face_cut (face + 1) joined firsts (omega arith) in
          let all : n + end ≡ next = omega arith in
          subst (λ k. covered (heavy_in (set heavy face chunks)) (drop k parts) ≡ covered (heavy_in heavy) (drop k parts)) (sym all)
          (away_same heavy (set heavy face chunks) face (face_begin (face + 1)) (drop next parts) leaf_end six (length-set heavy face chunks ∙ six) on on_now
          (λ other ne. get_or-set_other heavy face other chunks [] ne)
          (subst (λ from. AreNeighbours from (drop next parts) leaf_end) cut.1 (back next 1 parts leaf_end joined.neighbours cut.0)) (omega arith)
          (behind_away face (face_begin (face + 1)) leaf_end refl)))
    ]

-- the same of a face, chunks and a place that are known by what they equal
pub same_front : (heavy : List (List Collection)) (parts : List SpanRanges) (face f m n : ℕ) (chunks others : List Collection) → f ≡ face → m ≡ n
    → others ≡ chunks → covered (heavy_in (set heavy face chunks)) (take n parts) ≡ covered (heavy_in heavy) (take n parts)
    → covered (heavy_in (set heavy f others)) (take m parts) ≡ covered (heavy_in heavy) (take m parts)
same_front heavy parts face f m n chunks others a b d is =
    ap₂ (λ k cs. covered (heavy_in (set heavy k cs)) (take m parts)) a d
    ∙ ap (λ k. covered (heavy_in (set heavy face chunks)) (take k parts)) b ∙ is ∙ ap (λ k. covered (heavy_in heavy) (take k parts)) (sym b)

pub same_back : (heavy : List (List Collection)) (parts : List SpanRanges) (face f m n : ℕ) (chunks others : List Collection) → f ≡ face → m ≡ n
    → others ≡ chunks → covered (heavy_in (set heavy face chunks)) (drop n parts) ≡ covered (heavy_in heavy) (drop n parts)
    → covered (heavy_in (set heavy f others)) (drop m parts) ≡ covered (heavy_in heavy) (drop m parts)
same_back heavy parts face f m n chunks others a b d is =
    ap₂ (λ k cs. covered (heavy_in (set heavy k cs)) (drop m parts)) a d
    ∙ ap (λ k. covered (heavy_in (set heavy face chunks)) (drop k parts)) b ∙ is ∙ ap (λ k. covered (heavy_in heavy) (drop k parts)) (sym b)
