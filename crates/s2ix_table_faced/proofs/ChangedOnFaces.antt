-- What a change makes of the pairs on a face, its entries there make of these pairs alone.
use Rattle.std.proofs.Common.{◌≡◌, ℕ, zero, suc, ◌+◌, ◌<◌, ◌≤◌, ◌==◌, inl, inr, List, [], ◌∷◌, ◌++◌, length, take, drop, get_or, refl, sym, ap, ◌∙◌, arith, eq-eqb, ne_eqb, Contains, subst, append-nil}
use Rattle.std.proofs.lemmas.Bool.{cond-true, cond-false}
use Rattle.std.proofs.lemmas.List.{take-append-drop, take_more}
use Rattle.std.proofs.lemmas.List.Elements.{filter-append, Contains-append_cases}
use Rattle.s2id_core.specs.CellId.{raw_of, face_of}
use Rattle.s2id_core.proofs.Lists.{in_tail, at_head, none_in_nil, cons_cases}
use Rattle.s2ix_bag_pairs.specs.Change.{IsChangeList, IsChangeListFrom, changed}
use Rattle.s2ix_bag_pairs.specs.Collection.{Collection, IsCollection}
use Rattle.s2ix_bag_pairs.specs.Label.{value_of}
use Rattle.s2ix_bag_pairs.specs.Pair.{rank_of}
use Rattle.s2ix_bag_pairs.specs.declared.pair.Entry.{Entry}
use Rattle.s2ix_bag_pairs.proofs.Changes.{change_lower}
use Rattle.s2ix_table_kept.specs.Faces.{held_on, entries_on}
use Rattle.s2ix_table_faced.proofs.AllFaces.{face_rises, raw_rises}
use Rattle.s2ix_table_parts.proofs.HeldWhere.{changed_where}
use Rattle.s2ix_table_parts.proofs.InSpans.{raw_on_face}

-- ---- a whole change

pub changed_on_face : (face : ℕ) (hs : Collection) (es : List Entry) → IsCollection hs
    → held_on face (changed hs es) ≡ changed (held_on face hs) (entries_on face es)
changed_on_face face hs es c = changed_where (λ cell. face_of cell == face) hs es c

-- ---- entries rise from face to face

later_entry : (n : ℕ) (es : List Entry) → IsChangeListFrom n es → (x : Entry) → Contains es x → n ≤ rank_of x.pair
later_entry n [] c x held = absurd (none_in_nil x held)
later_entry n (e ∷ es) c x held =
    elim (cons_cases e es x held) [
      | inl same ↦ (let is = ap (λ (y : Entry). rank_of y.pair) same in omega (arith, is, c.0))
      | inr rest ↦ (let more = later_entry (rank_of e.pair + 1) es c.2 x rest in omega (arith, more, c.0))
    ]

pub faces_go_on : (n : ℕ) (e : Entry) (es : List Entry) → IsChangeListFrom n (e ∷ es) → (x : Entry) → Contains (e ∷ es) x
    → face_of e.pair.cell ≤ face_of x.pair.cell
faces_go_on n e es c x held =
    elim (cons_cases e es x held) [
      | inl same ↦ (let is = ap (λ (y : Entry). face_of y.pair.cell) same in omega (arith, is))
      | inr rest ↦
          (let rank = later_entry (rank_of e.pair + 1) es c.2 x rest in
          let raws = raw_rises (raw_of e.pair.cell) (raw_of x.pair.cell) (value_of e.pair.label) (value_of x.pair.label) e.pair.label.in_range x.pair.label.in_range (omega arith) in
          face_rises (face_of e.pair.cell) (face_of x.pair.cell) (raw_of e.pair.cell) (raw_of x.pair.cell) (raw_on_face e.pair.cell).0 (raw_on_face x.pair.cell).1 raws)
    ]

pub change_after : (k n : ℕ) (es : List Entry) → IsChangeListFrom n es → IsChangeList (drop k es)
change_after zero n es c = change_lower 0 n es (omega arith) c
change_after (suc k) n [] c = tt
change_after (suc k) n (e ∷ es) c = change_after k (rank_of e.pair + 1) es c.2

pub change_up_to : (k n : ℕ) (es : List Entry) → IsChangeListFrom n es → IsChangeListFrom n (take k es)
change_up_to zero n es c = tt
change_up_to (suc k) n [] c = tt
change_up_to (suc k) n (e ∷ es) c = (c.0, c.1, change_up_to k (rank_of e.pair + 1) es c.2)

-- from an entry on a face or a later one, all are
pub from_there : (k n face : ℕ) (es : List Entry) (d : Entry) → IsChangeListFrom n es → (k < length es → face ≤ face_of (get_or es k d).pair.cell)
    → (x : Entry) → Contains (drop k es) x → face ≤ face_of x.pair.cell
from_there zero n face [] d c from x held = absurd (none_in_nil x held)
from_there (suc k) n face [] d c from x held = absurd (none_in_nil x held)
from_there zero n face (e ∷ es) d c from x held =
    let le = faces_go_on n e es c x held in let first = from (omega arith) in omega (arith, le, first)
from_there (suc k) n face (e ∷ es) d c from x held =
    from_there k (rank_of e.pair + 1) face es d c.2 (λ lt. from (omega (arith, lt))) x held

-- one entry more that is before a face
pub before_more : (face k : ℕ) (es : List Entry) (d : Entry) → k < length es
    → ((x : Entry) → Contains (take k es) x → face_of x.pair.cell < face) → face_of (get_or es k d).pair.cell < face
    → (x : Entry) → Contains (take (k + 1) es) x → face_of x.pair.cell < face
before_more face k es d lt front here x held =
    elim (Contains-append_cases (take k es) (get_or es k d ∷ []) x (subst (λ xs. Contains xs x) (take_more es k d lt) held)) [
      | inl old ↦ front x old
      | inr new ↦
          elim (cons_cases (get_or es k d) [] x new) [
            | inl same ↦ (let is = ap (λ (y : Entry). face_of y.pair.cell) same in omega (arith, is, here))
            | inr none ↦ absurd (none_in_nil x none)
          ]
    ]

-- ---- the entries on a face stand together

none_on : (face : ℕ) (es : List Entry) → ((x : Entry) → Contains es x → face_of x.pair.cell ≡ face → ⊥) → entries_on face es ≡ []
none_on face [] off = refl
none_on face (e ∷ es) off =
    cond-false _ (e ∷ entries_on face es) (entries_on face es) (ne_eqb _ _ (off e (at_head e es)))
    ∙ none_on face es (λ x held. off x (in_tail e es x held))

all_on : (face : ℕ) (es : List Entry) → ((x : Entry) → Contains es x → face_of x.pair.cell ≡ face) → entries_on face es ≡ es
all_on face [] on = refl
all_on face (e ∷ es) on =
    cond-true _ (e ∷ entries_on face es) (entries_on face es) (eq-eqb _ _ (on e (at_head e es)))
    ∙ ap (λ x. e ∷ x) (all_on face es (λ x held. on x (in_tail e es x held)))

in_take : (k : ℕ) (es : List Entry) (x : Entry) → Contains (take k es) x → Contains es x
in_take zero es x held = absurd (none_in_nil x held)
in_take (suc k) [] x held = held
in_take (suc k) (e ∷ es) x held =
    elim (cons_cases e (take k es) x held) [
      | inl same ↦ subst (λ y. Contains (e ∷ es) y) same (at_head e es)
      | inr rest ↦ in_tail e es x (in_take k es x rest)
    ]

pub stand_together : (face a b : ℕ) (es : List Entry)
    → ((x : Entry) → Contains (take a es) x → face_of x.pair.cell < face)
    → ((x : Entry) → Contains (drop a es) x → face ≤ face_of x.pair.cell)
    → ((x : Entry) → Contains (take b (drop a es)) x → face_of x.pair.cell < face + 1)
    → ((x : Entry) → Contains (drop b (drop a es)) x → face + 1 ≤ face_of x.pair.cell)
    → take b (drop a es) ≡ entries_on face es
stand_together face a b es before from own after =
    let later = drop a es in
    let first = none_on face (take a es) (λ x held on. let lt = before x held in omega (arith, lt, on)) in
    let last = none_on face (drop b later) (λ x held on. let le = after x held in omega (arith, le, on)) in
    let mid = all_on face (take b later) (λ x held. let lt = own x held in let le = from x (in_take b later x held) in omega arith) in
    let parts = filter-append (λ (e : Entry). face_of e.pair.cell == face) (take b later) (drop b later) in
    let whole = filter-append (λ (e : Entry). face_of e.pair.cell == face) (take a es) later in
    sym (
    ap (entries_on face) (sym (take-append-drop a es)) ∙ whole ∙ ap (λ xs. xs ++ entries_on face later) first
    ∙ ap (entries_on face) (sym (take-append-drop b later)) ∙ parts ∙ ap (λ xs. xs ++ entries_on face (drop b later)) mid
    ∙ ap (λ xs. take b later ++ xs) last ∙ append-nil (take b later)
    )
