-- A list of cells, sorted and then rid of repeats; and what that gives of a border.
use Rattle.std.proofs.Common.{◌≡◌, ◌↔◌, ℕ, ◌+◌, ◌<◌, ◌≤◌, List, [], length, Any, AllPairs, Contains, nat_eq, sym, arith, subst}
use Rattle.std.specs.Ordering.{nat_cmp, on}
use Rattle.std.specs.List.Retain.{IsFiltered, DiffersFromLast}
use Rattle.std.specs.List.Sorted.{IsSorted, IsPermutation}
use Rattle.s2id_core.specs.declared.cell_id.CellId.{CellId}
use Rattle.s2id_core.specs.Path.{Path, IsPath, number_of}
use Rattle.s2id_core.specs.CellId.{raw_of, path_of}
use Rattle.s2id_core.proofs.Numbers.{path_of_cell, cell_of_path, path_at-number}
use Rattle.s2id_core.proofs.Cells.{same_cell}
use Rattle.s2id_core.proofs.Sorted.{rising_by, same_members}
use Rattle.s2id_cube.specs.declared.face_ij.FaceIj.{FaceIj}
use Rattle.s2id_cube.specs.Square.{square_of}
use Rattle.s2id_cube.specs.Border.{IsOnBorder}
use Rattle.s2id_cube.specs.Loops.{IsOverSides}
use Rattle.s2id_cube.proofs.Round.{border_from_over, over_from_border}
use Rattle.s2id_cube.proofs.Gathering.{HasSides}

pub rising : (ys zs : List CellId) → IsSorted (on raw_of nat_cmp) ys → IsFiltered (DiffersFromLast (on raw_of nat_eq)) [] ys zs
    → AllPairs (λ x y. raw_of x < raw_of y) zs
rising ys zs sorted filtered = rising_by raw_of ys zs sorted filtered

pub same_cells : (xs ys zs : List CellId) → IsPermutation xs ys → IsFiltered (DiffersFromLast (on raw_of nat_eq)) [] ys zs → (x : CellId)
    → Contains xs x ↔ Contains zs x
same_cells xs ys zs moved filtered = same_members raw_of same_cell xs ys zs moved filtered

-- what lies over the sides of a cell's square is the cell's border
pub border_is : (p q : Path) (s : FaceIj) (d level : ℕ) → IsPath p → IsPath q → s ≡ square_of p → level ≡ length p.digits + d → level ≤ 30
    → IsOverSides s d 4 q ↔ IsOnBorder p level q
border_is p q s d level hp hq es el most = (
  λ o. let at = subst (λ x. IsOverSides x d 4 q) es o in subst (λ k. IsOnBorder p k q) (sym el) (border_from_over p q d at.side at.over.along hp hq (let e : length p.digits + d ≤ 30 = omega arith in e) at.is_side at.over.is_along at.over.over),
  λ b. subst (λ x. IsOverSides x d 4 q) (sym es) (over_from_border p q d hp (subst (λ k. IsOnBorder p k q) el b)),
)

pub border_cells : (cell : CellId) (s : FaceIj) (d level : ℕ) (xs zs : List CellId) → s ≡ square_of (path_of cell)
    → level ≡ length (path_of cell).digits + d → level ≤ 30 → HasSides xs s d 4 → ((x : CellId) → Contains xs x ↔ Contains zs x)
    → (x : CellId) → Contains zs x ↔ IsOnBorder (path_of cell) level (path_of x)
border_cells cell s d level xs zs es el most has same x =
    let is = border_is (path_of cell) (path_of x) s d level (path_of_cell cell.raw cell.valid) (path_of_cell x.raw x.valid) es el most in
    (λ c. is.0 ((has x).0 ((same x).1 c)), λ b. (same x).0 ((has x).1 (is.1 b)))

-- each path is a cell's
record IsCellOf (q : Path) : Type 0 where
  cell : CellId
  is : path_of cell ≡ q

cell_at : (q : Path) → IsPath q → IsCellOf q
cell_at q path = record { cell = record { raw = number_of q; valid = cell_of_path q path }; is = path_at-number q path }

pub border_paths : (p : Path) (level : ℕ) (zs : List CellId) → ((x : CellId) → Contains zs x ↔ IsOnBorder p level (path_of x)) → (q : Path)
    → IsOnBorder p level q → Any (λ x. path_of x ≡ q) zs
border_paths p level zs h q b =
    let r = cell_at q b.path in
    let c = (h r.cell).1 (subst (λ y. IsOnBorder p level y) (sym r.is) b) in
    (c.0, r.cell, c.1, c.2, r.is)
