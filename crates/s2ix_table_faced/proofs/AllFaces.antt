-- What lies on each of the six faces makes up what is held.
use Rattle.std.proofs.Common.{◌≡◌, ℕ, zero, suc, ◌+◌, ◌*◌, ◌<◌, ◌≤◌, ◌==◌, inl, inr, true, false, cond, List, [], ◌∷◌, ◌++◌, length, flat_map, refl, sym, ◌∙◌, ap, arith, Contains, subst}
use Rattle.std.proofs.lemmas.Bool.{cases_Bool, cases_eq, cond-true, cond-false}
use Rattle.std.proofs.lemmas.Bool.Decides.{nat_tests}
use Rattle.s2id_core.specs.CellId.{raw_of, face_of}
use Rattle.s2id_core.proofs.Lists.{in_tail, at_head, none_in_nil, cons_cases}
use Rattle.s2ix_bag_pairs.specs.Collection.{Collection, IsCollectionFrom}
use Rattle.s2ix_bag_pairs.specs.Pair.{rank_of}
use Rattle.s2ix_bag_pairs.specs.Label.{value_of}
use Rattle.s2ix_bag_pairs.specs.declared.pair.Held.{Held}
use Rattle.s2ix_table_walk.proofs.Lists.{later_rank}
use Rattle.s2ix_table_kept.specs.Faces.{held_on}
use Rattle.s2ix_table_parts.proofs.HeldWhere.{where_rises}
use Rattle.s2ix_table_faced.proofs.Unchanged.{on_face, off_face}
use Rattle.s2ix_table_parts.specs.FaceSpans.{face_begin, AreOnFace}
use Rattle.s2ix_table_walk.proofs.OnFaces.{six_faces}
use Rattle.s2ix_table_parts.proofs.InSpans.{raw_on_face}

unfoldable pub faces_from : ℕ → ℕ → List ℕ
faces_from n zero = []
faces_from n (suc k) = n ∷ faces_from (n + 1) k

unfoldable pub on_each : Collection → ℕ → Collection
on_each hs face = held_on face hs

-- ---- one pair more in front

none_on : (face : ℕ) (hs : Collection) → ((h : Held) → Contains hs h → face < face_of h.pair.cell) → held_on face hs ≡ []
none_on face [] after = refl
none_on face (h ∷ hs) after =
    let lt = after h (at_head h hs) in
    off_face face h hs (λ e. omega arith) ∙ none_on face hs (λ x held. after x (in_tail h hs x held))

later_faces : (n k : ℕ) (h : Held) (hs : Collection) → face_of h.pair.cell < n
    → flat_map (on_each (h ∷ hs)) (faces_from n k) ≡ flat_map (on_each hs) (faces_from n k)
unfolding faces_from on_each
later_faces n zero h hs lt = refl
later_faces n (suc k) h hs lt =
    ap (λ xs. xs ++ flat_map (on_each (h ∷ hs)) (faces_from (n + 1) k)) (off_face n h hs (λ e. omega arith))
    ∙ ap (λ xs. held_on n hs ++ xs) (later_faces (n + 1) k h hs (omega arith))

in_front : (n k : ℕ) (h : Held) (hs : Collection) → n ≤ face_of h.pair.cell → face_of h.pair.cell < n + k
    → ((x : Held) → Contains hs x → face_of h.pair.cell ≤ face_of x.pair.cell)
    → flat_map (on_each (h ∷ hs)) (faces_from n k) ≡ h ∷ flat_map (on_each hs) (faces_from n k)
unfolding faces_from on_each
in_front n zero h hs le lt after = absurd (omega arith)
in_front n (suc k) h hs le lt after =
    elim (cases_eq (face_of h.pair.cell) n) [
      | inl e ↦
          ap (λ xs. xs ++ flat_map (on_each (h ∷ hs)) (faces_from (n + 1) k)) (on_face n h hs e)
          ∙ ap (λ xs. h ∷ (held_on n hs ++ xs)) (later_faces (n + 1) k h hs (omega arith))
      | inr ne ↦
          (let more : n < face_of h.pair.cell = omega (arith, ne) in
          let none = none_on n hs (λ x held. let b = after x held in omega arith) in
          ap (λ xs. xs ++ flat_map (on_each (h ∷ hs)) (faces_from (n + 1) k)) (off_face n h hs (λ e. ne e) ∙ none)
          ∙ in_front (n + 1) k h hs (omega arith) (omega arith) after
          ∙ ap (λ xs. h ∷ (xs ++ flat_map (on_each hs) (faces_from (n + 1) k))) (sym none))
    ]

nothing : (n k : ℕ) → flat_map (on_each []) (faces_from n k) ≡ []
unfolding faces_from on_each
nothing n zero = refl
nothing n (suc k) = nothing (n + 1) k

-- ---- all pairs

pub raw_rises : (a b l m : ℕ) → l ≤ 2147483647 → m ≤ 2147483647 → a * 2147483648 + l < b * 2147483648 + m → a ≤ b
raw_rises a b l m x y lt = omega arith

pub face_rises : (f g a b : ℕ) → face_begin f ≤ a → b < face_begin (g + 1) → a ≤ b → f ≤ g
face_rises f g a b x y le = omega arith

faces_rise : (n : ℕ) (h : Held) (hs : Collection) → IsCollectionFrom n (h ∷ hs) → (x : Held) → Contains hs x
    → face_of h.pair.cell ≤ face_of x.pair.cell
faces_rise n h hs c x held =
    let rank = later_rank (rank_of h.pair + 1) hs x c.2 held in
    let raws = raw_rises (raw_of h.pair.cell) (raw_of x.pair.cell) (value_of h.pair.label) (value_of x.pair.label) h.pair.label.in_range x.pair.label.in_range (omega arith) in
    face_rises (face_of h.pair.cell) (face_of x.pair.cell) (raw_of h.pair.cell) (raw_of x.pair.cell) (raw_on_face h.pair.cell).0 (raw_on_face x.pair.cell).1 raws

-- what lies on each of them, one after the other, is all
pub made_up : (n : ℕ) (hs : Collection) → IsCollectionFrom n hs → flat_map (on_each hs) (faces_from 0 6) ≡ hs
made_up n [] c = nothing 0 6
made_up n (h ∷ hs) c =
    in_front 0 6 h hs (omega arith) (let six = six_faces h.pair.cell in omega arith) (faces_rise n h hs c) ∙ ap (λ xs. h ∷ xs) (made_up (rank_of h.pair + 1) hs c.2)

-- ---- what lies on one face

pub held_rises : (face n : ℕ) (hs : Collection) → IsCollectionFrom n hs → IsCollectionFrom n (held_on face hs)
held_rises face n hs c = where_rises (λ cell. face_of cell == face) n hs c

pub held_few : (face : ℕ) (hs : Collection) → length (held_on face hs) ≤ length hs
held_few face [] = omega arith
held_few face (h ∷ hs) =
    let rest = held_few face hs in
    elim (face_of h.pair.cell == face) as (λ b. length (cond b (h ∷ held_on face hs) (held_on face hs)) ≤ suc (length hs)) [
      | true ↦ omega arith
      | false ↦ omega arith
    ]

pub lie_on : (face : ℕ) (hs : Collection) → AreOnFace face (held_on face hs)
lie_on face [] x c = absurd (none_in_nil x c)
lie_on face (h ∷ hs) x c =
    elim (cases_Bool (face_of h.pair.cell == face)) [
      | inl t ↦
          (let is : face_of h.pair.cell ≡ face = grind (arith, nat_tests) in
          elim (cons_cases h (held_on face hs) x (subst (λ xs. Contains xs x) (cond-true _ (h ∷ held_on face hs) (held_on face hs) t) c)) [
            | inl e ↦ ap (λ (y : Held). face_of y.pair.cell) (sym e) ∙ is
            | inr rest ↦ lie_on face hs x rest
          ])
      | inr f ↦ lie_on face hs x (subst (λ xs. Contains xs x) (cond-false _ (h ∷ held_on face hs) (held_on face hs) f) c)
    ]
