-- What is held, face by face.
use Rattle.std.proofs.Common.{◌≡◌, ◌≢◌, ℕ, zero, suc, ◌+◌, ◌<◌, ◌≤◌, inl, inr, ◌==◌, List, [], ◌∷◌, ◌++◌, length, flat_map, refl, sym, ◌∙◌, ap, ap₂, arith, Contains, subst, eq-eqb, ne_eqb}
use Rattle.std.proofs.lemmas.Bool.{cases_eq}
use Rattle.std.proofs.lemmas.List.{append-nil}
use Rattle.s2id_core.specs.CellId.{face_of}
use Rattle.s2id_core.proofs.Cells.{same_cell}
use Rattle.s2id_core.proofs.Lists.{at_head, in_tail, cons_cases, none_in_nil}
use Rattle.s2ix_bag_lists.specs.Faces.{all_of}
use Rattle.s2ix_bag_pairs.specs.Collection.{Collection, IsCollection}
use Rattle.s2ix_bag_pairs.specs.declared.pair.Held.{Held}
use Rattle.s2ix_table_walk.proofs.OnFaces.{six_faces}
use Rattle.s2ix_table_kept.specs.Faces.{held_on}
use Rattle.s2ix_table_parts.specs.FaceSpans.{AreOnFace}
use Rattle.s2ix_table_faced.specs.Layout.{chunks_on, heavy_in}
use Rattle.s2ix_table_parts.specs.Layers.{ShareNoCell, joined_layers}
use Rattle.s2ix_table_faced.proofs.AllFaces.{faces_from, on_each, made_up}
use Rattle.s2ix_table_parts.proofs.HeldWhere.{all_where, none_where, in_where}
use Rattle.s2ix_table_faced.proofs.OnFaces.{both_kept}
use Rattle.s2ix_table_faced.proofs.Unchanged.{on_face, off_face}
use Rattle.s2ix_table_parts.proofs.LayersChanged.{where_joined_layers}

-- what lies on a face is held
pub held_there : (face : ℕ) (hs : Collection) (h : Held) → Contains (held_on face hs) h → Contains hs h
held_there face hs h held = (in_where (λ cell. face_of cell == face) hs h held).0

-- and what is held lies on its face
pub there_held : (face : ℕ) (hs : Collection) (h : Held) → Contains hs h → face_of h.pair.cell ≡ face → Contains (held_on face hs) h
there_held face [] h held on = absurd (none_in_nil h held)
there_held face (k ∷ ks) h held on =
    elim (cons_cases k ks h held) [
      | inl same ↦
          (let is : face_of k.pair.cell ≡ face = ap (λ (x : Held). face_of x.pair.cell) same ∙ on in
          subst (λ xs. Contains xs h) (sym (on_face face k ks is)) (subst (Contains (k ∷ held_on face ks)) same (at_head k (held_on face ks))))
      | inr later ↦
          (let rest = there_held face ks h later on in
          elim (cases_eq (face_of k.pair.cell) face) [
            | inl is ↦ subst (λ xs. Contains xs h) (sym (on_face face k ks is)) (in_tail k (held_on face ks) h rest)
            | inr ne ↦ subst (λ xs. Contains xs h) (sym (off_face face k ks ne)) rest
          ])
    ]

pub all_there : (face : ℕ) (hs : Collection) → AreOnFace face hs → held_on face hs ≡ hs
all_there face hs on = all_where (λ cell. face_of cell == face) hs (λ h held. eq-eqb _ _ (on h held))

none_there : (face other : ℕ) (hs : Collection) → AreOnFace other hs → other ≢ face → held_on face hs ≡ []
none_there face other hs on ne =
    none_where (λ cell. face_of cell == face) hs (λ h held. ne_eqb _ _ (λ e. ne (sym (on h held) ∙ e)))

-- ---- the heavy pairs of a face

none_from : (face n : ℕ) (heavy : List (List Collection)) → ((k : ℕ) → k < length heavy → AreOnFace (n + k) (all_of (chunks_on heavy k)))
    → face < n → held_on face (heavy_in heavy) ≡ []
none_from face n [] each lt = refl
none_from face n (chunks ∷ rest) each lt =
    let later = none_from face (n + 1) rest (λ k within. let next : n + suc k ≡ n + 1 + k = omega arith in
    subst (λ f. AreOnFace f (all_of (chunks_on rest k))) next (each (suc k) (omega arith))) (omega arith) in
    both_kept face (all_of chunks) (heavy_in rest)
    ∙ ap₂ (λ (one other : Collection). one ++ other) (none_there face (n + 0) (all_of chunks) (each 0 (omega arith)) (λ e. absurd (omega (arith, e)))) later

there_from : (n j : ℕ) (heavy : List (List Collection)) → ((k : ℕ) → k < length heavy → AreOnFace (n + k) (all_of (chunks_on heavy k)))
    → j < length heavy → held_on (n + j) (heavy_in heavy) ≡ all_of (chunks_on heavy j)
there_from n j [] each lt = absurd (omega arith)
there_from n zero (chunks ∷ rest) each lt =
    let later = none_from (n + 0) (n + 1) rest (λ k within. let next : n + suc k ≡ n + 1 + k = omega arith in
    subst (λ f. AreOnFace f (all_of (chunks_on rest k))) next (each (suc k) (omega arith))) (omega arith) in
    both_kept (n + 0) (all_of chunks) (heavy_in rest)
    ∙ ap₂ (λ (one other : Collection). one ++ other) (all_there (n + 0) (all_of chunks) (each 0 (omega arith))) later
    ∙ append-nil (all_of chunks)
there_from n (suc j) (chunks ∷ rest) each lt =
    let same : n + suc j ≡ n + 1 + j = omega arith in
    let later = there_from (n + 1) j rest (λ k within. let next : n + suc k ≡ n + 1 + k = omega arith in
    subst (λ f. AreOnFace f (all_of (chunks_on rest k))) next (each (suc k) (omega arith))) (omega arith) in
    both_kept (n + suc j) (all_of chunks) (heavy_in rest)
    ∙ ap (λ xs. xs ++ held_on (n + suc j) (heavy_in rest)) (none_there (n + suc j) (n + 0) (all_of chunks) (each 0 (omega arith)) (λ e. absurd (omega (arith, e))))
    ∙ ap (λ f. held_on f (heavy_in rest)) same ∙ later

-- of all heavy pairs those of a face lie on it
pub heavy_there : (heavy : List (List Collection)) (face : ℕ) → length heavy ≡ 6
    → ((f : ℕ) → f < 6 → AreOnFace f (all_of (chunks_on heavy f))) → face < 6 → held_on face (heavy_in heavy) ≡ all_of (chunks_on heavy face)
heavy_there heavy face six on lt =
    let zero_more : (f : ℕ) → f ≡ 0 + f = λ f. omega arith in
    ap (λ f. held_on f (heavy_in heavy)) (zero_more face)
    ∙ there_from 0 face heavy (λ k within. subst (λ f. AreOnFace f (all_of (chunks_on heavy k))) (zero_more k) (on k (omega arith))) (omega arith)

-- ---- all faces

each_same : (n k : ℕ) (hs ks : Collection) → n + k ≤ 6 → ((face : ℕ) → face < 6 → held_on face hs ≡ held_on face ks)
    → flat_map (on_each hs) (faces_from n k) ≡ flat_map (on_each ks) (faces_from n k)
unfolding faces_from on_each
each_same n zero hs ks le same = refl
each_same n (suc k) hs ks le same =
    ap₂ (λ (one other : Collection). one ++ other) (same n (omega arith)) (each_same (n + 1) k hs ks (omega arith) same)

-- collections with the same pairs on each face are the same
pub same_by_faces : (hs ks : Collection) → IsCollection hs → IsCollection ks → ((face : ℕ) → face < 6 → held_on face hs ≡ held_on face ks)
    → hs ≡ ks
same_by_faces hs ks c d same = sym (made_up 0 hs c) ∙ each_same 0 6 hs ks (omega arith) same ∙ made_up 0 ks d

-- layers that share no cell on any face share none
pub apart_by_faces : (light heavy : Collection) → ((face : ℕ) → face < 6 → ShareNoCell (held_on face light) (held_on face heavy))
    → ShareNoCell light heavy
apart_by_faces light heavy apart l h in_light in_heavy same =
    let face = face_of l.pair.cell in
    let on = ap face_of (same_cell h.pair.cell l.pair.cell (sym same)) in
    apart face (six_faces l.pair.cell) l h (there_held face light l in_light refl) (there_held face heavy h in_heavy on) same

-- what both hold together on a face is what each holds there, together
pub on_face_joined_layers : (face : ℕ) (light heavy : Collection) → IsCollection light → IsCollection heavy
    → held_on face (joined_layers light heavy) ≡ joined_layers (held_on face light) (held_on face heavy)
on_face_joined_layers face light heavy c d = where_joined_layers (λ cell. face_of cell == face) light heavy c d
