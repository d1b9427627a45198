-- Cells that follow one another, taken from their numbers one by one.
use Rattle.std.proofs.Common.{◌≡◌, ◌≢◌, ◌<◌, ◌≤◌, ◌+◌, ◌∙◌, ℕ, List, [], ◌∷◌, ◌++◌, Contains, length, map, take, set, get_or, refl, sym, ap, subst, inl, inr, arith}
use Rattle.std.proofs.lemmas.List.{take_more, take_more_set, map-append, get_or-map, length-map, take_all}
use Rattle.std.proofs.lemmas.List.Elements.{Contains-get_or, Contains-push_cases}
use Rattle.std.proofs.lemmas.List.Quantifiers.{all_pairs_push}
use Rattle.s2id_core.specs.declared.cell_id.CellId.{CellId}
use Rattle.s2id_core.specs.CellId.{raw_of, first_of, end_of}
use Rattle.s2id_core.proofs.Cells.{same_cell}
use Rattle.s2id_core.proofs.Lists.{none_in_nil}
use Rattle.s2id_core.proofs.Nested.{span}
use Rattle.s2id_union.specs.Covers.{FollowOneAnother}
use Rattle.s2ix_c_calls.specs.Asked.{AreCells, AreFollowing}

-- the first cells of a list are those of the first numbers, follow one another, and end by `end`; and in any list of all the cells that follow
-- one another the next one begins there or later
pub record IsFront (ids : List ℕ) (cells : List CellId) (count end : ℕ) : Type 0 where
  pub are : map raw_of (take count cells) ≡ take count ids
  pub follow : FollowOneAnother (take count cells)
  pub ends : (c : CellId) → Contains (take count cells) c → end_of c ≤ end
  pub reaches : (all : List CellId) → AreCells ids all → FollowOneAnother all → (d : CellId) → count < length all
      → end ≤ first_of (get_or all count d)

pub front_none : (ids : List ℕ) (cells : List CellId) → IsFront ids cells 0 0
front_none ids cells = record {
  are = refl;
  follow = λ i j d lt l. absurd (omega arith);
  ends = λ c held. absurd (none_in_nil c held);
  reaches = λ all are follow d l. omega arith;
}

-- the cell of a number in any list of all the cells
is_there : (ids : List ℕ) (all : List CellId) (k : ℕ) (cell d : CellId) → AreCells ids all → raw_of cell ≡ get_or ids k 0 → k < length all
    → cell ≡ get_or all k d
is_there ids all k cell d are is within =
    same_cell cell (get_or all k d) (is ∙ ap (λ l. get_or l k 0) (sym are) ∙ get_or-map raw_of all k d 0 within)

module _ (ids : List ℕ) (cells : List CellId) (count end : ℕ) (cell : CellId) (within : count < length ids) (room : count < length cells)
    (is : raw_of cell ≡ get_or ids count 0) (h : IsFront ids cells count end) where
  pub front_next : end ≤ first_of cell → IsFront ids (set cells count cell) (count + 1) (end_of cell)
  front_next after =
      let more = take_more_set cells count cell room in
      let s = span (raw_of cell) cell.valid in record {
        are = ap (map raw_of) more
            ∙ map-append raw_of (take count cells) (cell ∷ [])
            ∙ ap (λ l. l ++ raw_of cell ∷ []) h.are
            ∙ ap (λ n. take count ids ++ n ∷ []) is
            ∙ sym (take_more ids count 0 within);
        follow = subst FollowOneAnother (sym more)
            (all_pairs_push (λ a b. end_of a ≤ first_of b) (take count cells) cell h.follow
            (λ k d l. let e = h.ends (get_or (take count cells) k d) (Contains-get_or (take count cells) k d l) in omega arith));
        ends = λ c held.
            elim (Contains-push_cases (take count cells) cell c (subst (λ (l : List CellId). Contains l c) more held)) [
              | inl old ↦ omega (arith, h.ends c old, s.from, s.to)
              | inr same ↦ omega (arith, ap end_of same)
            ];
        reaches = λ all are follow d l.
            let there = ap end_of (is_there ids all count cell d are is (omega arith)) in
            omega (arith, there, follow count (count + 1) d (omega arith) l);
      }

  -- a cell that begins before the end doesn't follow
  pub not_following : first_of cell < end → AreFollowing ids → ⊥
  not_following before f =
      let long : count < length f.cells = omega (arith, ap length f.are, length-map f.cells raw_of) in
      let there = ap first_of (is_there ids f.cells count cell cell f.are is long) in
      omega (arith, there, h.reaches f.cells f.are f.following cell long)
