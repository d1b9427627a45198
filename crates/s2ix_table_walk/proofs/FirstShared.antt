-- The first leaf that a cell shares with a list of cells.
use Rattle.std.proofs.Common.{◌≡◌, ℕ, ◌%◌, ◌<◌, ◌≤◌, inl, inr, true, false, ◌&&◌, cond, ltb, min, max, List, [], ◌∷◌, refl, sym, arith, subst, lt-ltb}
use Rattle.std.proofs.lemmas.Bool.{and_parts, and_from, ltb-true, cases_lt, cond-true}
use Rattle.s2id_core.specs.declared.cell_id.CellId.{CellId}
use Rattle.s2id_core.specs.CellId.{raw_of, first_of, end_of}
use Rattle.s2id_core.proofs.Nested.{span}
use Rattle.s2id_union.specs.Covers.{Covers}
use Rattle.s2id_union.proofs.Covering.{covers_tail}
use Rattle.s2id_core.proofs.Lists.{cons_cases, at_head, none_in_nil}
use Rattle.s2ix_table_walk.specs.Table.{leaf_end}
use Rattle.s2ix_table_walk.specs.Meeting.{first_shared}

-- a leaf number that a cell shares with a list of cells
pub record IsSharedAt (target : List CellId) (cell : CellId) (q : ℕ) : Type 0 where
  pub covered : Covers target q
  pub from : first_of cell ≤ q
  pub to : q < end_of cell
  pub odd : q % 2 ≡ 1

shared_more : (t : CellId) (ts : List CellId) (cell : CellId) (q : ℕ) → IsSharedAt ts cell q → IsSharedAt (t ∷ ts) cell q
shared_more t ts cell q s = record { covered = covers_tail t ts q s.covered; from = s.from; to = s.to; odd = s.odd }

shared_here : (t : CellId) (ts : List CellId) (cell : CellId) → first_of t < end_of cell → first_of cell < end_of t
    → first_shared (t ∷ ts) cell ≡ min (max (first_of t) (first_of cell)) (first_shared ts cell)
unfolding first_shared
shared_here t ts cell a b = cond-true _ _ _ (and_from _ _ (lt-ltb _ _ a) (lt-ltb _ _ b))

pub shared_tail : (t : CellId) (ts : List CellId) (cell : CellId) → first_shared (t ∷ ts) cell ≤ first_shared ts cell
unfolding first_shared
shared_tail t ts cell =
    elim (ltb (first_of t) (end_of cell) && ltb (first_of cell) (end_of t)) as (λ b.
    cond b (min (max (first_of t) (first_of cell)) (first_shared ts cell)) (first_shared ts cell) ≤ first_shared ts cell) [
      | true ↦ omega arith
      | false ↦ omega arith
    ]

-- no shared leaf comes before the first
pub shared_le : (target : List CellId) (cell : CellId) (q : ℕ) → Covers target q → first_of cell ≤ q → q < end_of cell
    → first_shared target cell ≤ q
shared_le [] cell q v from to = absurd (none_in_nil v.cell v.held)
shared_le (t ∷ ts) cell q v from to =
    elim (cons_cases t ts v.cell v.held) [
      | inl e ↦
          (let a = subst (λ (x : CellId). first_of x ≤ q) (sym e) v.from in
          let b = subst (λ (x : CellId). q < end_of x) (sym e) v.to in
          let here = shared_here t ts cell (omega arith) (omega arith) in
          omega arith)
      | inr held ↦
          (let rest = shared_le ts cell q (record { cell = v.cell; held = held; from = v.from; to = v.to }) from to in
          let tail = shared_tail t ts cell in
          omega arith)
    ]

-- the first is shared, if there is one
pub shared_is : (target : List CellId) (cell : CellId) → first_shared target cell < leaf_end
    → IsSharedAt target cell (first_shared target cell)
unfolding first_shared
shared_is [] cell lt = absurd (omega arith)
shared_is (t ∷ ts) cell lt =
    elim (ltb (first_of t) (end_of cell) && ltb (first_of cell) (end_of t)) as (λ b.
    ((ltb (first_of t) (end_of cell) && ltb (first_of cell) (end_of t)) ≡ b)
    → cond b (min (max (first_of t) (first_of cell)) (first_shared ts cell)) (first_shared ts cell) < leaf_end
    → IsSharedAt (t ∷ ts) cell (cond b (min (max (first_of t) (first_of cell)) (first_shared ts cell)) (first_shared ts cell))) [
      | true ↦
          λ e l.
          let both = and_parts (ltb (first_of t) (end_of cell)) (ltb (first_of cell) (end_of t)) e in
          let a : first_of t < end_of cell = ltb-true (first_of t) (end_of cell) both.0 in
          let b : first_of cell < end_of t = ltb-true (first_of cell) (end_of t) both.1 in
          let s = span (raw_of t) t.valid in
          let u = span (raw_of cell) cell.valid in
          let s1 = s.odd in
          let s2 = s.from in
          let s3 = s.to in
          let u1 = u.odd in
          let u2 = u.from in
          let u3 = u.to in
          elim (cases_lt (first_shared ts cell) (max (first_of t) (first_of cell))) [
            | inl less ↦
                (let same : first_shared ts cell ≡ min (max (first_of t) (first_of cell)) (first_shared ts cell) = omega arith in
                subst (IsSharedAt (t ∷ ts) cell) same (shared_more t ts cell (first_shared ts cell) (shared_is ts cell (omega arith))))
            | inr le ↦
                (let same : max (first_of t) (first_of cell) ≡ min (max (first_of t) (first_of cell)) (first_shared ts cell) =
                omega arith in
                let covered : Covers (t ∷ ts) (max (first_of t) (first_of cell)) =
                record { cell = t; held = at_head t ts; from = omega arith; to = omega arith } in
                subst (IsSharedAt (t ∷ ts) cell) same
                (record { covered = covered; from = omega arith; to = omega arith; odd = omega arith }))
          ]
      | false ↦ λ e l. shared_more t ts cell (first_shared ts cell) (shared_is ts cell l)
    ] refl lt
