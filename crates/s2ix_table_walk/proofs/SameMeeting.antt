-- Targets with one region have one meeting list.
use Rattle.std.proofs.Common.{◌≡◌, ℕ, ◌+◌, ◌*◌, ◌%◌, ◌<◌, ◌≤◌, inl, inr, ◌&&◌, leb, ltb, List, [], ◌∷◌, ap, arith, subst}
use Rattle.std.proofs.Math.Path.{fun_ext}
use Rattle.std.proofs.lemmas.Bool.{cases_lt}
use Rattle.s2id_core.specs.declared.cell_id.CellId.{CellId}
use Rattle.s2id_core.specs.CellId.{raw_of}
use Rattle.s2id_core.specs.Path.{path_at, number_of}
use Rattle.s2id_core.proofs.Nested.{leaf_from_span, leaf_of_odd}
use Rattle.s2id_union.specs.Covers.{Covers}
use Rattle.s2id_union.specs.Region.{HaveSameRegion}
use Rattle.s2ix_bag_pairs.specs.Collection.{Collection}
use Rattle.s2ix_table_walk.specs.Contents.{depth_key}
use Rattle.s2ix_table_walk.specs.InOrder.{choice}
use Rattle.s2ix_table_walk.specs.Meeting.{first_shared, meeting_key, meeting_from, meeting_of}
use Rattle.s2ix_table_walk.specs.Table.{leaf_end}
use Rattle.s2id_union.proofs.Covering.{covers_from_region}
use Rattle.s2ix_table_walk.proofs.FirstShared.{shared_le, shared_is, shared_tail}

same_covers : (xs ys : List CellId) → HaveSameRegion xs ys → (q : ℕ) → q % 2 ≡ 1 → q < leaf_end → Covers xs q → Covers ys q
same_covers xs ys same q odd lt v =
    let l = leaf_of_odd q odd lt in
    let is : number_of (path_at q) ≡ q = l.0.2 in
    let from = v.from in
    let to = v.to in
    let leaf = leaf_from_span (path_at q) (raw_of v.cell) v.cell.valid l.1 (omega arith) (omega arith) in
    subst (Covers ys) is (covers_from_region ys (path_at q) ((same (path_at q) l.1).0 (v.held.0, v.cell, v.held.1, v.held.2, leaf)))

shared_within : (target : List CellId) (cell : CellId) → first_shared target cell ≤ leaf_end
unfolding first_shared
shared_within [] cell = omega arith
shared_within (t ∷ ts) cell = omega (arith, shared_within ts cell, shared_tail t ts cell)

no_later : (xs ys : List CellId) → HaveSameRegion xs ys → (cell : CellId) → first_shared ys cell ≤ first_shared xs cell
no_later xs ys same cell =
    elim (cases_lt (first_shared xs cell) leaf_end) [
      | inl lt ↦
          (let s = shared_is xs cell lt in
          shared_le ys cell (first_shared xs cell) (same_covers xs ys same (first_shared xs cell) s.odd lt s.covered) s.from s.to)
      | inr ge ↦ let within = shared_within ys cell in omega arith
    ]

same_first : (xs ys : List CellId) → HaveSameRegion xs ys → (cell : CellId) → first_shared xs cell ≡ first_shared ys cell
same_first xs ys same cell =
    let a = no_later xs ys same cell in
    let b = no_later ys xs (λ leaf deep. ((same leaf deep).1, (same leaf deep).0)) cell in
    omega arith

-- the meeting list by the first shared leaf of each cell
abbrev met_by : (CellId → ℕ) → Collection → Collection
met_by first held =
    choice (λ h. leb 1 (first h.pair.cell) && ltb (first h.pair.cell) leaf_end) (λ h. first h.pair.cell * 68719476736 + depth_key h)
    held

-- targets with one region meet the same pairs, in the same order
pub same_region_meets : (xs ys : List CellId) (held : Collection) → HaveSameRegion xs ys → meeting_of xs held ≡ meeting_of ys held
unfolding meeting_from meeting_key
same_region_meets xs ys held same = ap (λ first. met_by first held) (fun_ext (same_first xs ys same))
