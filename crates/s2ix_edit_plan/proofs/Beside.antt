-- The cells of a level beside a cell, as borders and edge neighbours give them.
use Rattle.std.proofs.Common.{◌≡◌, ◌↔◌, ◌⊎◌, inl, inr, ℕ, ◌+◌, ◌<◌, ◌≤◌, List, [], ◌∷◌, ◌++◌, length, get_or, take, Any, Contains, sym, ap, ◌∙◌, subst, arith}
use Rattle.std.proofs.lemmas.List.{get_or_default, take_more}
use Rattle.std.proofs.lemmas.List.Elements.{Contains-append_cases, Contains-append_left, Contains-append_right, Contains-push, Contains-push_cases}
use Rattle.s2id_core.specs.declared.cell_id.CellId.{CellId}
use Rattle.s2id_core.specs.CellId.{path_of, level_of}
use Rattle.s2id_core.specs.Leaves.{IsWithin, Overlap}
use Rattle.s2id_core.specs.Path.{Path, IsPath, ancestor, first_leaf, number_of}
use Rattle.s2id_core.proofs.Levels.{length-ancestor}
use Rattle.s2id_core.proofs.Numbers.{cell_of_path, path_at-number, path_of_cell}
use Rattle.s2id_core.proofs.Spans.{finer_within, leaf_of_first, leaves_from_within, overlap_from_within, place_from_leaf}
use Rattle.s2id_cube.specs.Border.{IsOnBorder}
use Rattle.s2id_cube.specs.Edge.{ShareEdge, SharesSide}
use Rattle.s2id_cube.proofs.Gathering.{one_cell}
use Rattle.s2ix_edit_plan.specs.Grow.{IsNextTo}

pub pathed : (c : CellId) → IsPath (path_of c)
pathed c = path_of_cell c.raw c.valid

-- of two cells that overlap, the finer lies within the other
within_by_overlap : (p q : Path) → IsPath p → IsPath q → length q.digits ≤ length p.digits → Overlap q p → IsWithin p q
within_by_overlap p q hp hq level o =
    let in_q = place_from_leaf o.0 q hq o.1 in
    let in_p = place_from_leaf o.0 p hp o.2 in
    finer_within p q hp hq level (omega (arith, in_p.0, in_q.1)) (omega (arith, in_q.0, in_p.1))

-- ---- beside a coarser cell

next_from_border : (level : ℕ) (cell x : CellId) → IsOnBorder (path_of cell) level (path_of x) → IsNextTo level cell x
next_from_border level cell x b =
    let near : CellId = record { raw = number_of b.inner; valid = cell_of_path b.inner b.inner_path } in
    let is : path_of near ≡ b.inner = path_at-number b.inner b.inner_path in
    let first = leaf_of_first b.inner b.inner_path in
    record {
      level_is = b.level_is;
      outside = b.outside;
      near = near;
      near_level = ap (λ (p : Path). length p.digits) is ∙ b.shares.shares.one_level ∙ b.level_is;
      overlaps = subst (λ p. Overlap (path_of cell) p) (sym is) (first_leaf b.inner, b.inside (first_leaf b.inner) first, first);
      shares = subst (λ p. ShareEdge p (path_of x)) (sym is) b.shares;
    }

border_from_next : (level : ℕ) (cell x : CellId) → level_of cell ≤ level → IsNextTo level cell x
    → IsOnBorder (path_of cell) level (path_of x)
border_from_next level cell x le n =
    let finer : level_of cell ≤ level_of n.near = omega (arith, le, n.near_level) in
    let within = within_by_overlap (path_of n.near) (path_of cell) (pathed n.near) (pathed cell) finer n.overlaps in
    record {
      path = pathed x;
      level_is = n.level_is;
      outside = n.outside;
      inner = path_of n.near;
      inner_path = pathed n.near;
      inside = leaves_from_within (path_of n.near) (path_of cell) within finer;
      shares = n.shares;
    }

-- the border of a cell is what lies beside it
pub next_in_border : (level : ℕ) (cell x : CellId) (cells border : List CellId) → level_of cell ≤ level → cells ≡ border
    → Contains border x ↔ IsOnBorder (path_of cell) level (path_of x) → Contains cells x ↔ IsNextTo level cell x
next_in_border level cell x cells border le is has = (
  λ c. next_from_border level cell x (has.0 (subst (λ ys. Contains ys x) is c)),
  λ n. subst (λ ys. Contains ys x) (sym is) (has.1 (border_from_next level cell x le n)),
)

-- ---- beside a cell of the level, or a finer one

-- the cells over the four sides of a cell
pub record AreOverSides (outer : CellId) (cells : List CellId) : Type 0 where
  pub four : length cells ≡ 4
  pub sides : (side : ℕ) → side < 4 → SharesSide side (path_of outer) (path_of (get_or cells side outer))
  pub only : (other : Path) → IsPath other → ShareEdge (path_of outer) other
      → (side : ℕ) × (side < 4) × (path_of (get_or cells side outer) ≡ other)

next_from_sides : (level : ℕ) (cell outer x : CellId) (cells : List CellId) → level ≤ level_of cell
    → path_of outer ≡ ancestor level (path_of cell) → AreOverSides outer cells → Contains cells x → IsNextTo level cell x
next_from_sides level cell outer x cells le is over has =
    let p = path_of cell in
    let outer_level : level_of outer ≡ level = ap (λ (q : Path). length q.digits) is ∙ length-ancestor level p le in
    let side : has.0 < 4 = omega (arith, has.1, over.four) in
    let same : get_or cells has.0 outer ≡ x = sym (get_or_default cells has.0 x outer has.1) ∙ has.2 in
    let shares = subst (λ (y : CellId). SharesSide has.0 (path_of outer) (path_of y)) same (over.sides has.0 side) in
    let x_level : level_of x ≡ level = sym shares.one_level ∙ outer_level in
    let within : IsWithin p (path_of outer) = ap (λ k. ancestor k p) outer_level ∙ sym is in
    let o = overlap_from_within p (path_of outer) (pathed cell) (pathed outer) within in
    record {
      level_is = x_level;
      outside = λ meets.
          let in_x : IsWithin p (path_of x) = within_by_overlap p (path_of x) (pathed cell) (pathed x) (omega (arith, le, x_level))
          (meets.0, meets.2, meets.1) in
          shares.apart (is ∙ ap (λ k. ancestor k p) (sym x_level) ∙ in_x);
      near = outer;
      near_level = outer_level;
      overlaps = o;
      shares = record { side = has.0; is_side = side; shares = shares };
    }

sides_from_next : (level : ℕ) (cell outer x : CellId) (cells : List CellId) → level ≤ level_of cell
    → path_of outer ≡ ancestor level (path_of cell) → AreOverSides outer cells → IsNextTo level cell x → Contains cells x
sides_from_next level cell outer x cells le is over n =
    let p = path_of cell in
    let o = n.overlaps in
    let in_near : IsWithin p (path_of n.near) = within_by_overlap p (path_of n.near) (pathed cell) (pathed n.near)
    (omega (arith, le, n.near_level)) (o.0, o.2, o.1) in
    let near_is : path_of n.near ≡ path_of outer = sym in_near ∙ ap (λ k. ancestor k p) n.near_level ∙ sym is in
    let found = over.only (path_of x) (pathed x) (subst (λ q. ShareEdge q (path_of x)) near_is n.shares) in
    let within : found.0 < length cells = omega (arith, found.1, over.four) in
    (found.0, within, get_or_default cells found.0 x outer within ∙ one_cell (get_or cells found.0 outer) x found.2)

-- the cells over the sides of a cell's parent at the level are what lies beside it
pub sides_are_next : (level : ℕ) (cell outer x : CellId) (cells : List CellId) → level ≤ level_of cell
    → path_of outer ≡ ancestor level (path_of cell) → AreOverSides outer cells → Contains cells x ↔ IsNextTo level cell x
sides_are_next level cell outer x cells le is over =
    (next_from_sides level cell outer x cells le is over, sides_from_next level cell outer x cells le is over)

-- ---- gathered

-- what is appended is what lies beside one more cell
abbrev pub GainsNext : ℕ → CellId → List CellId → List CellId → Type 0
GainsNext level cell old new = (x : CellId) → Contains new x ↔ (Contains old x ⊎ IsNextTo level cell x)

pub gained : (level : ℕ) (cell : CellId) (old cells new : List CellId) → new ≡ old ++ cells
    → ((x : CellId) → Contains cells x ↔ IsNextTo level cell x) → GainsNext level cell old new
gained level cell old cells new is next x = (
  λ c.
      elim (Contains-append_cases old cells x (subst (λ ys. Contains ys x) is c)) [
        | inl before ↦ inl before
        | inr here ↦ inr ((next x).0 here)
      ],
  λ e.
      subst (λ ys. Contains ys x) (sym is) (elim e [
        | inl before ↦ Contains-append_left old cells x before
        | inr here ↦ Contains-append_right old cells x ((next x).1 here)
      ]),
)

-- what lies beside one of the cells
abbrev pub AreNext : ℕ → List CellId → List CellId → Type 0
AreNext level cells beside = (x : CellId) → Contains beside x ↔ Any (λ cell. IsNextTo level cell x) cells

pub none_next : (level : ℕ) (beside : List CellId) → beside ≡ [] → AreNext level [] beside
none_next level beside none x = (
  λ c. let at = subst (λ ys. Contains ys x) none c in absurd (omega (arith, at.1)),
  λ a. absurd (omega (arith, a.2)),
)

one_more : (level : ℕ) (cells : List CellId) (cell : CellId) (old new : List CellId) → AreNext level cells old
    → GainsNext level cell old new → AreNext level (cells ++ cell ∷ []) new
one_more level cells cell old new next gains x = (
  λ c. elim ((gains x).0 c) [
    | inl before ↦
        (let a = (next x).0 before in
        let held = Contains-append_left cells (cell ∷ []) a.1 (a.0, a.2, a.3) in
        (held.0, a.1, held.1, held.2, a.4))
    | inr here ↦ let held = Contains-push cells cell in (held.0, cell, held.1, held.2, here)
  ],
  λ a.
      (gains x).1 (elim (Contains-push_cases cells cell a.1 (a.0, a.2, a.3)) [
        | inl before ↦ inl ((next x).1 (before.0, a.1, before.1, before.2, a.4))
        | inr same ↦ inr (subst (λ c. IsNextTo level c x) (sym same) a.4)
      ]),
)

pub next_more : (level k : ℕ) (cells : List CellId) (cell : CellId) (old new : List CellId) → k < length cells → cell ≡ get_or cells k cell
    → AreNext level (take k cells) old → GainsNext level cell old new → AreNext level (take (k + 1) cells) new
next_more level k cells cell old new within is next gains =
    let longer : take (k + 1) cells ≡ take k cells ++ cell ∷ [] = take_more cells k cell within
    ∙ ap (λ (c : CellId). take k cells ++ c ∷ []) (sym is) in
    subst (λ cs. AreNext level cs new) (sym longer) (one_more level (take k cells) cell old new next gains)
