-- The pairs of each face's parts among those of all.
use Rattle.std.proofs.Common.{◌≡◌, ℕ, zero, suc, ◌+◌, ◌<◌, ◌≤◌, inl, inr, ◌==◌, List, [], ◌∷◌, ◌++◌, length, take, drop, refl, sym, ◌∙◌, ap, ap₂, arith, subst}
use Rattle.std.proofs.lemmas.Bool.{cases_Bool, cond-true, cond-false}
use Rattle.std.proofs.lemmas.List.{append-nil}
use Rattle.s2id_core.specs.CellId.{face_of, first_of, end_of}
use Rattle.s2id_core.proofs.Lists.{in_tail, at_head}
use Rattle.s2ix_bag_pairs.specs.Collection.{Collection}
use Rattle.s2ix_table_walk.proofs.Over.{span_of}
use Rattle.s2ix_table_spans.specs.SpanTable.{SpanRanges}
use Rattle.s2ix_table_kept.specs.Faces.{held_on}
use Rattle.s2ix_table_parts.specs.FaceSpans.{face_begin}
use Rattle.s2ix_table_parts.specs.Neighbours.{held_in, AreNeighbours}
use Rattle.s2ix_table_parts.specs.Parts.{BeginsFrom, EndsBy}
use Rattle.s2ix_table_parts.proofs.Cuts.{cut, front, back, between, all_end}
use Rattle.s2ix_table_parts.proofs.Cutting.{held_append}
use Rattle.s2ix_table_parts.proofs.InSpans.{cell_on_face}
use Rattle.s2ix_table_parts.proofs.Neighbours.{all_begin}
use Rattle.s2ix_table_faced.proofs.Unchanged.{on_face, off_face}

-- ---- pairs within a face's span, and outside of it

same_face : (f g first end : ℕ) → face_begin f ≤ first → end ≤ face_begin (f + 1) → first < end → face_begin g ≤ first
    → end ≤ face_begin (g + 1) → g ≡ f
same_face f g first end a b c d e = omega arith

pub all_kept : (face : ℕ) (hs : Collection) → BeginsFrom hs (face_begin face) → EndsBy hs (face_begin (face + 1)) → held_on face hs ≡ hs
all_kept face [] begin end = refl
all_kept face (h ∷ hs) begin end =
    let rises = (span_of h).rises in
    let on = cell_on_face h.pair.cell in
    let is =
    same_face face (face_of h.pair.cell) (first_of h.pair.cell) (end_of h.pair.cell) (begin h (at_head h hs)) (end h (at_head h hs)) (omega arith)
    on.0 on.1 in
    on_face face h hs is
    ∙ ap (λ ks. h ∷ ks) (all_kept face hs (λ x held. begin x (in_tail h hs x held)) (λ x held. end x (in_tail h hs x held)))

before_face : (f first end : ℕ) → face_begin f ≤ first → first < end → end ≤ face_begin f → ⊥
before_face f first end a b c = omega arith

pub none_before : (face : ℕ) (hs : Collection) → EndsBy hs (face_begin face) → held_on face hs ≡ []
none_before face [] end = refl
none_before face (h ∷ hs) end =
    let rises = (span_of h).rises in
    let on = cell_on_face h.pair.cell in
    let by = end h (at_head h hs) in
    off_face face h hs
    (λ e. before_face face (first_of h.pair.cell) (end_of h.pair.cell) (subst (λ n. face_begin n ≤ first_of h.pair.cell) e on.0) (omega arith) by)
    ∙ none_before face hs (λ x held. end x (in_tail h hs x held))

pub none_after : (face : ℕ) (hs : Collection) → BeginsFrom hs (face_begin (face + 1)) → held_on face hs ≡ []
none_after face [] begin = refl
none_after face (h ∷ hs) begin =
    let rises = (span_of h).rises in
    let on = cell_on_face h.pair.cell in
    let from = begin h (at_head h hs) in
    off_face face h hs
    (λ e. let to = subst (λ n. end_of h.pair.cell ≤ face_begin (n + 1)) e on.1 in omega (arith, to, from, rises))
    ∙ none_after face hs (λ x held. begin x (in_tail h hs x held))

pub both_kept : (face : ℕ) (hs ks : Collection) → held_on face (hs ++ ks) ≡ held_on face hs ++ held_on face ks
both_kept face [] ks = refl
both_kept face (h ∷ hs) ks =
    elim (cases_Bool (face_of h.pair.cell == face)) [
      | inl t ↦
          cond-true _ (h ∷ held_on face (hs ++ ks)) (held_on face (hs ++ ks)) t ∙ ap (λ xs. h ∷ xs) (both_kept face hs ks)
          ∙ ap (λ xs. xs ++ held_on face ks) (sym (cond-true _ (h ∷ held_on face hs) (held_on face hs) t))
      | inr f ↦
          cond-false _ (h ∷ held_on face (hs ++ ks)) (held_on face (hs ++ ks)) f ∙ both_kept face hs ks
          ∙ ap (λ xs. xs ++ held_on face ks) (sym (cond-false _ (h ∷ held_on face hs) (held_on face hs) f))
    ]

-- ---- the parts of a face

parted : {X : Type 0} (n : ℕ) (xs : List X) → take n xs ++ drop n xs ≡ xs
parted zero xs = refl
parted (suc n) [] = refl
parted (suc n) (x ∷ xs) = ap (λ ys. x ∷ ys) (parted n xs)

of_three : (face : ℕ) (xs ys zs : Collection) → held_on face xs ≡ [] → held_on face ys ≡ ys → held_on face zs ≡ []
    → ys ≡ held_on face (xs ++ (ys ++ zs))
of_three face xs ys zs none all later =
    sym (
    both_kept face xs (ys ++ zs)
    ∙ ap (λ ks. ks ++ held_on face (ys ++ zs)) none
    ∙ both_kept face ys zs
    ∙ ap₂ (λ (one other : Collection). one ++ other) all later
    ∙ append-nil ys
    )

-- what the parts over a face's span hold is what all hold on the face
pub held_between : (face a n from : ℕ) (parts : List SpanRanges) (to : ℕ) → AreNeighbours from parts to → a + n ≤ length parts
    → cut a from parts ≡ face_begin face → cut (a + n) from parts ≡ face_begin (face + 1)
    → held_in (take n (drop a parts)) ≡ held_on face (held_in parts)
held_between face a n from parts to are le begin end =
    let xs = take a parts in
    let ys = take n (drop a parts) in
    let zs = drop n (drop a parts) in
    let whole : xs ++ (ys ++ zs) ≡ parts = ap (λ ts. xs ++ ts) (parted n (drop a parts)) ∙ parted a parts in
    let held : held_in xs ++ (held_in ys ++ held_in zs) ≡ held_in parts =
    ap (λ hs. held_in xs ++ hs) (sym (held_append ys zs)) ∙ sym (held_append xs (ys ++ zs)) ∙ ap held_in whole in
    let first = subst (EndsBy (held_in xs)) begin (all_end from xs (cut a from parts) (front a from parts to are (omega arith))) in
    let own = between a n from parts to are le in
    let own_begin = subst (BeginsFrom (held_in ys)) begin (all_begin (cut a from parts) ys (cut (a + n) from parts) own) in
    let own_end = subst (EndsBy (held_in ys)) end (all_end (cut a from parts) ys (cut (a + n) from parts) own) in
    let later = subst (λ ts. BeginsFrom (held_in ts) (cut (a + n) from parts)) (dropped a n parts) (all_begin (cut (a + n) from parts) (drop (a + n) parts) to (back (a + n) from parts to are le)) in
    of_three face (held_in xs) (held_in ys) (held_in zs) (none_before face (held_in xs) first) (all_kept face (held_in ys) own_begin own_end)
    (none_after face (held_in zs) (subst (BeginsFrom (held_in zs)) end later))
    ∙ ap (held_on face) held
  where
    none_dropped : (n : ℕ) → drop n (let none : List SpanRanges = [] in none) ≡ []
    none_dropped zero = refl
    none_dropped (suc n) = refl

    dropped : (a n : ℕ) (ts : List SpanRanges) → drop (a + n) ts ≡ drop n (drop a ts)
    dropped zero n ts = let e : 0 + n ≡ n = omega arith in ap (λ k. drop k ts) e
    dropped (suc a) n [] = none_dropped (suc a + n) ∙ sym (none_dropped n)
    dropped (suc a) n (t ∷ ts) = let e : suc a + n ≡ suc (a + n) = omega arith in ap (λ k. drop k (t ∷ ts)) e ∙ dropped a n ts
