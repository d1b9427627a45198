-- Cells that share a side, by their squares.
use Rattle.std.proofs.Common.{◌≡◌, ℕ, ◌*◌, ◌^◌, ◌<◌, ◌≤◌, length, sym, ◌∙◌, ap, refl, arith, subst}
use Rattle.s2id_core.specs.declared.cell_id.CellId.{CellId}
use Rattle.s2id_core.specs.CellId.{path_of}
use Rattle.s2id_core.specs.Path.{Path, IsPath, place_of, number_of}
use Rattle.s2id_core.proofs.Cells.{same_cell}
use Rattle.s2id_core.proofs.Numbers.{path_of_cell, place_below}
use Rattle.s2id_core.proofs.Levels.{same_place}
use Rattle.s2id_cube.specs.declared.face_ij.FaceIj.{FaceIj}
use Rattle.s2id_cube.specs.Square.{square_of}
use Rattle.s2id_cube.specs.Edge.{SharesSide}
use Rattle.s2id_cube.specs.Grid.{middle, IsBeside}
use Rattle.s2id_cube.specs.Loops.{IsSquare, square_at}
use Rattle.s2id_cube.proofs.Squares.{square_of_place, IsSquare-square_at, one_place}
use Rattle.s2id_cube.proofs.Grid.{AtSide, one_beside}
use Rattle.s2id_cube.proofs.Sides.{middle_from_side, side_from_middle}

pub IsSquare-square_of : (p : Path) → IsPath p → IsSquare (length p.digits) (square_of p)
IsSquare-square_of p path = subst (λ s. IsSquare (length p.digits) s) (sym (square_of_place p path)) (IsSquare-square_at (length p.digits) (place_of p) (place_below p path))

-- the square tells the cell
pub one_path : (p q : Path) → IsPath p → IsPath q → length p.digits ≡ length q.digits → (square_of p).face ≡ (square_of q).face
    → (square_of p).i ≡ (square_of q).i → (square_of p).j ≡ (square_of q).j → p ≡ q
one_path p q hp hq long face i j =
    let k = length p.digits in
    let sp : square_of p ≡ square_at k (place_of p) = square_of_place p hp in
    let sq : square_of q ≡ square_at k (place_of q) = square_of_place q hq ∙ ap (λ x. square_at x (place_of q)) (sym long) in
    let below_q : place_of q < 6 * 4 ^ k = subst (λ x. place_of q < 6 * 4 ^ x) (sym long) (place_below q hq) in
    same_place p q hp hq long
    (one_place k (place_of p) (place_of q) (place_below p hp) below_q (sym (ap (λ (s : FaceIj). s.face) sp) ∙ face ∙ ap (λ (s : FaceIj). s.face) sq) (sym (ap (λ (s : FaceIj). s.i) sp) ∙ i ∙ ap (λ (s : FaceIj). s.i) sq) (sym (ap (λ (s : FaceIj). s.j) sp) ∙ j ∙ ap (λ (s : FaceIj). s.j) sq))

-- the square of a cell
pub square_taken : (a : CellId) → let s = square_of (path_of a) in (s.face < 6) × (s.level ≤ 30) × (s.i < 2 ^ s.level) × (s.j < 2 ^ s.level)
square_taken a =
    let path = path_of_cell a.raw a.valid in
    let is = IsSquare-square_of (path_of a) path in
    let level : length (path_of a).digits ≡ (square_of (path_of a)).level = sym is.level in
    let most = path.at_most in (
      is.face,
      omega arith,
      subst (λ k. (square_of (path_of a)).i < 2 ^ k) level is.i,
      subst (λ k. (square_of (path_of a)).j < 2 ^ k) level is.j,
    )

pub one_cell : (a b : CellId) → let s = square_of (path_of a) in let t = square_of (path_of b) in s.face ≡ t.face → s.i ≡ t.i → s.j ≡ t.j → s.level ≡ t.level → a ≡ b
one_cell a b face i j level =
    let p = path_of_cell a.raw a.valid in
    let q = path_of_cell b.raw b.valid in
    let long : length (path_of a).digits ≡ length (path_of b).digits = sym (IsSquare-square_of (path_of a) p).level ∙ level ∙ (IsSquare-square_of (path_of b) q).level in
    same_cell a b (sym a.valid.2 ∙ ap number_of (one_path (path_of a) (path_of b) p q long face i j) ∙ b.valid.2)

pub square_at_level : (p q : Path) → IsPath q → length p.digits ≡ length q.digits → IsSquare (length p.digits) (square_of q)
square_at_level p q hq long = subst (λ k. IsSquare k (square_of q)) (sym long) (IsSquare-square_of q hq)

pub shares_from_beside : (m : ℕ) (p q : Path) → m < 4 → IsPath p → IsPath q → length p.digits ≡ length q.digits
    → IsBeside (2 ^ length p.digits) m (square_of p).face (square_of p).i (square_of p).j (square_of q).face (square_of q).i (square_of q).j
    → SharesSide m p q
shares_from_beside m p q hm hp hq long h = record {
  apart = λ e. h.apart (ap (λ x. (square_of x).face) e, ap (λ x. (square_of x).i) e, ap (λ x. (square_of x).j) e);
  one_level = long;
  other = h.other;
  is_side = h.is_side;
  one_side = side_from_middle (length p.digits) (square_of p) (square_of q) hp.at_most (IsSquare-square_of p hp) (square_at_level p q hq long) m h.other hm h.is_side h.same;
}

pub at_side_first : (m : ℕ) (p : Path) → m < 4 → IsPath p
    → AtSide (2 ^ length p.digits) m (square_of p).face (square_of p).i (square_of p).j (middle (2 ^ length p.digits) m (square_of p).face (square_of p).i (square_of p).j)
at_side_first m p hm hp =
    let s = IsSquare-square_of p hp in
    record { is_side = hm; face = s.face; column = s.i; row = s.j; at = refl }

pub at_side_second : (m : ℕ) (p q : Path) → m < 4 → IsPath p → IsPath q → (h : SharesSide m p q)
    → AtSide (2 ^ length p.digits) h.other (square_of q).face (square_of q).i (square_of q).j (middle (2 ^ length p.digits) m (square_of p).face (square_of p).i (square_of p).j)
at_side_second m p q hm hp hq h =
    let t = square_at_level p q hq h.one_level in
    record {
      is_side = h.is_side;
      face = t.face;
      column = t.i;
      row = t.j;
      at = sym (middle_from_side (length p.digits) (square_of p) (square_of q) hp.at_most (IsSquare-square_of p hp) t m h.other hm h.is_side h.one_side);
    }

-- the cell over a side is one
pub one_neighbor : (m : ℕ) (p q r : Path) → m < 4 → IsPath p → IsPath q → IsPath r → SharesSide m p q → SharesSide m p r → q ≡ r
one_neighbor m p q r hm hp hq hr h k =
    let long : length q.digits ≡ length r.digits = sym h.one_level ∙ k.one_level in
    let s = square_of p in
    let t = square_of q in
    let u = square_of r in
    let e = one_beside (2 ^ length p.digits) m s.face s.i s.j h.other t.face t.i t.j k.other u.face u.i u.j (middle (2 ^ length p.digits) m s.face s.i s.j) (at_side_first m p hm hp) (at_side_second m p q hm hp hq h) (at_side_second m p r hm hp hr k) (λ (x, y, z). h.apart (one_path p q hp hq h.one_level x y z)) (λ (x, y, z). k.apart (one_path p r hp hr k.one_level x y z)) in
    one_path q r hq hr long e.0 e.1 e.2

-- ---- as the code has them

pub square_facts : (p : Path) → IsPath p → (s : FaceIj) → s ≡ square_of p
    → (s.face < 6) × (s.level ≤ 30) × (s.i < 2 ^ s.level) × (s.j < 2 ^ s.level)
square_facts p path s e =
    let is = subst (λ x. IsSquare (length p.digits) x) (sym e) (IsSquare-square_of p path) in
    let most = path.at_most in
    let level = is.level in
    (is.face, omega arith, subst (λ k. s.i < 2 ^ k) (sym level) is.i, subst (λ k. s.j < 2 ^ k) (sym level) is.j)

pub shares_from_square : (m : ℕ) (p q : Path) (s : FaceIj) → m < 4 → IsPath p → IsPath q → s ≡ square_of p → (square_of q).level ≡ s.level
    → IsBeside (2 ^ s.level) m s.face s.i s.j (square_of q).face (square_of q).i (square_of q).j → SharesSide m p q
shares_from_square m p q s hm hp hq e level h =
    let lp = (IsSquare-square_of p hp).level in
    let lq = (IsSquare-square_of q hq).level in
    let ls = ap (λ (x : FaceIj). x.level) e in
    let P : FaceIj → Type 0 = λ x. IsBeside (2 ^ x.level) m x.face x.i x.j (square_of q).face (square_of q).i (square_of q).j in
    let at = subst P e h in
    shares_from_beside m p q hm hp hq (sym lp ∙ sym ls ∙ sym level ∙ lq) (subst (λ k. IsBeside (2 ^ k) m (square_of p).face (square_of p).i (square_of p).j (square_of q).face (square_of q).i (square_of q).j) lp at)
