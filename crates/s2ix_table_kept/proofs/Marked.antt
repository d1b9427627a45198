-- The faces that entries lie on, marked entry by entry.
use Rattle.std.proofs.Common.{◌≡◌, ℕ, zero, suc, ◌+◌, ◌<◌, ◌==◌, Bool, true, false, if◌then◌else◌, cond, List, [], ◌∷◌, ◌++◌, take, get_or, length, map, set, refl, sym, ap, ap₂, ◌∙◌, arith}
use Rattle.std.specs.Prelude.{◌||◌}
use Rattle.std.proofs.lemmas.List.{take_more}
use Rattle.s2id_core.specs.CellId.{face_of}
use Rattle.s2ix_bag_pairs.specs.declared.pair.Entry.{Entry}
use Rattle.s2ix_table_kept.specs.Faces.{faces, has_entry_on}

-- what one face more adds to what is told of each
abbrev with_face : ℕ → (ℕ → Bool) → ℕ → Bool
with_face n told face = if n == face then true else told face

marked : (n : ℕ) (told : ℕ → Bool) → n < 6 → set (map told faces) n true ≡ map (with_face n told) faces
marked zero told lt = refl
marked (suc zero) told lt = refl
marked (suc (suc zero)) told lt = refl
marked (suc (suc (suc zero))) told lt = refl
marked (suc (suc (suc (suc zero)))) told lt = refl
marked (suc (suc (suc (suc (suc zero))))) told lt = refl
marked (suc (suc (suc (suc (suc (suc n)))))) told lt = absurd (omega arith)

same_of_all : (told other : ℕ → Bool) → ((face : ℕ) → told face ≡ other face) → map told faces ≡ map other faces
same_of_all told other same =
    let join : Bool → List Bool → List Bool = λ b bs. b ∷ bs in
    ap₂ join (same 0) (ap₂ join (same 1) (ap₂ join (same 2) (ap₂ join (same 3) (ap₂ join (same 4) (ap₂ join (same 5) refl)))))

one_more : (front : List Entry) (e : Entry) (face : ℕ)
    → has_entry_on (front ++ e ∷ []) face ≡ with_face (face_of e.pair.cell) (has_entry_on front) face
one_more [] e face =
    elim (face_of e.pair.cell == face) as (λ b. (b || false) ≡ cond b true false) [
      | true ↦ refl
      | false ↦ refl
    ]
one_more (x ∷ front) e face =
    elim (face_of x.pair.cell == face) as (λ b.
    (b || has_entry_on (front ++ e ∷ []) face) ≡ cond (face_of e.pair.cell == face) true (b || has_entry_on front face)) [
      | true ↦
          elim (face_of e.pair.cell == face) as (λ b. true ≡ cond b true true) [
            | true ↦ refl
            | false ↦ refl
          ]
      | false ↦ one_more front e face
    ]

-- the face of one entry more is marked
pub mark_next : (es : List Entry) (tests : List Bool) (i n : ℕ) (e : Entry) → i < length es → e ≡ get_or es i e → n ≡ face_of e.pair.cell
    → n < 6 → tests ≡ map (has_entry_on (take i es)) faces → set tests n true ≡ map (has_entry_on (take (i + 1) es)) faces
mark_next es tests i n e within is here lt told =
    let front = take i es in
    let more : take (i + 1) es ≡ front ++ e ∷ [] = take_more es i e within ∙ ap (λ (x : Entry). front ++ x ∷ []) (sym is) in
    ap (λ (ts : List Bool). set ts n true) told
    ∙ marked n (has_entry_on front) lt
    ∙ same_of_all (with_face n (has_entry_on front)) (has_entry_on (front ++ e ∷ []))
    (λ face. ap (λ (k : ℕ). with_face k (has_entry_on front) face) here ∙ sym (one_more front e face))
    ∙ ap (λ (xs : List Entry). map (has_entry_on xs) faces) (sym more)
