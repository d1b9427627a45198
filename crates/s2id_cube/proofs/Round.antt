-- The border of a cell is what lies over the sides of its square.
use Rattle.std.proofs.Common.{◌≡◌, ℕ, ◌+◌, ◌-◌, ◌*◌, ◌%◌, ◌^◌, ◌<◌, ◌≤◌, length, sym, ◌∙◌, ap, refl, arith, subst}
use Rattle.std.proofs.Math.Nat.{mul-le-mul_right, pow-le-pow_right}
use Rattle.std.proofs.lemmas.Nat.{pow-add, pow_pos, one_shl}
use Rattle.s2id_core.specs.Path.{Path, IsPath}
use Rattle.s2id_core.specs.Leaves.{IsWithin, Overlap}
use Rattle.s2id_core.proofs.Spans.{finer_within, place_from_leaf, leaves_from_within, within_from_leaves, overlap_from_within}
use Rattle.s2id_cube.specs.declared.face_ij.FaceIj.{FaceIj}
use Rattle.s2id_cube.specs.Square.{square_of}
use Rattle.s2id_cube.specs.Edge.{SharesSide}
use Rattle.s2id_cube.specs.Grid.{IsBeside, column_on, row_on}
use Rattle.s2id_cube.specs.Border.{IsOnBorder}
use Rattle.s2id_cube.specs.Loops.{IsOverAt, IsOverSides}
use Rattle.s2id_cube.proofs.Beside.{beside_moved}
use Rattle.s2id_cube.proofs.Shared.{IsSquare-square_of, one_path, square_facts, shares_from_beside, at_side_second}
use Rattle.s2id_cube.proofs.Nesting.{nested_path, within_of_square, cell_of_square, bounds_from_quotient, quotient_from_bounds}
use Rattle.s2id_cube.proofs.Perimeter.{InBlock, along_in_block, same_beside, over_is_outside, outside_is_over}

-- ---- cells within a cell

pub block_fits : (i k d : ℕ) → i < 2 ^ k → i * 2 ^ d + 2 ^ d ≤ 2 ^ (k + d)
block_fits i k d h =
    let more : (i + 1) * 2 ^ d ≤ 2 ^ k * 2 ^ d = mul-le-mul_right (2 ^ d) (let e : i + 1 ≤ 2 ^ k = omega arith in e) in
    let split = pow-add 2 k d in
    let wide : (i + 1) * 2 ^ d ≡ i * 2 ^ d + 2 ^ d = omega arith in
    omega arith

in_block : (p q : Path) (d : ℕ) → IsPath q → length q.digits ≡ length p.digits + d → IsWithin q p → let s = square_of p in let t = square_of q in (t.face ≡ s.face) × InBlock (s.i * 2 ^ d) (s.j * 2 ^ d) (2 ^ d) t.i t.j
in_block p q d hq long within =
    let h = nested_path p q d hq long within in
    let column = bounds_from_quotient (2 ^ d) (square_of q).i (square_of p).i (pow_pos d) h.column in
    let row = bounds_from_quotient (2 ^ d) (square_of q).j (square_of p).j (pow_pos d) h.row in
    (h.face, record { left = column.0; right = column.1; down = row.0; up = row.1 })

within_block : (p q : Path) (d : ℕ) → IsPath p → IsPath q → length q.digits ≡ length p.digits + d → let s = square_of p in let t = square_of q in t.face ≡ s.face → InBlock (s.i * 2 ^ d) (s.j * 2 ^ d) (2 ^ d) t.i t.j → IsWithin q p
within_block p q d hp hq long face k =
    within_of_square p q d hp hq long
    (record {
      face = face;
      column = quotient_from_bounds (2 ^ d) (square_of q).i (square_of p).i k.left k.right;
      row = quotient_from_bounds (2 ^ d) (square_of q).j (square_of p).j k.down k.up;
    })

within_from_overlap : (p q : Path) → IsPath p → IsPath q → length p.digits ≤ length q.digits → Overlap p q → IsWithin q p
within_from_overlap p q hp hq level o =
    let in_p = place_from_leaf o.0 p hp o.1 in
    let in_q = place_from_leaf o.0 q hq o.2 in
    finer_within q p hq hp level (let a = in_q.0 in let b = in_p.1 in omega arith) (let a = in_p.0 in let b = in_q.1 in omega arith)

overlap_in : (p q : Path) → IsPath p → IsPath q → IsWithin q p → Overlap p q
overlap_in p q hp hq w = let o = overlap_from_within q p hq hp w in (o.0, o.2, o.1)

beside_from_shares : (m : ℕ) (p q : Path) → m < 4 → IsPath p → IsPath q → SharesSide m p q
    → IsBeside (2 ^ length p.digits) m (square_of p).face (square_of p).i (square_of p).j (square_of q).face (square_of q).i (square_of q).j
beside_from_shares m p q hm hp hq h =
    let t = at_side_second m p q hm hp hq h in
    record {
      face = t.face;
      column = t.column;
      row = t.row;
      other = h.other;
      is_side = h.is_side;
      same = sym t.at;
      apart = λ (x, y, z). h.apart (one_path p q hp hq h.one_level x y z);
    }

-- ---- over a side is on the border

over_level : (p q : Path) (d m t : ℕ) → IsPath p → IsPath q → IsOverAt (square_of p) d m t q → length q.digits ≡ length p.digits + d
over_level p q d m t hp hq h = sym (IsSquare-square_of q hq).level ∙ h.level_is ∙ ap (λ x. x + d) (IsSquare-square_of p hp).level

pub border_from_over : (p q : Path) (d m t : ℕ) → IsPath p → IsPath q → length p.digits + d ≤ 30 → m < 4 → t < 2 ^ d
    → IsOverAt (square_of p) d m t q → IsOnBorder p (length p.digits + d) q
border_from_over p q d m t hp hq most hm ht h =
    let s = square_of p in
    let g = square_of q in
    let f = square_facts p hp s refl in
    let level : s.level ≡ length p.digits = (IsSquare-square_of p hp).level in
    let long = over_level p q d m t hp hq h in
    let w = 2 ^ d in
    let n = 2 ^ (s.level + d) in
    let u = s.i * w in
    let v = s.j * w in
    let i = u + column_on m t (w - 1) in
    let j = v + row_on m t (w - 1) in
    let fits_u : u + w ≤ n = block_fits s.i s.level d f.2 in
    let fits_v : v + w ≤ n = block_fits s.j s.level d f.3 in
    let inside = along_in_block u v w t m ht hm in
    let right = inside.right in
    let up = inside.up in
    let c = cell_of_square (s.level + d) s.face i j (omega arith) f.0 (omega arith) (omega arith) in
    let r = c.path in
    let long_r : length r.digits ≡ length p.digits + d = c.long ∙ ap (λ x. x + d) level in
    let block : InBlock u v w (square_of r).i (square_of r).j = subst (λ y. InBlock u v w (square_of r).i y) (sym c.square.row) (subst (λ x. InBlock u v w x j) (sym c.square.column) inside) in
    let within = within_block p r d hp c.is_path long_r c.square.face block in
    let at : IsBeside n m (square_of r).face (square_of r).i (square_of r).j g.face g.i g.j =
    beside_moved refl refl (sym c.square.face) (sym c.square.column) (sym c.square.row) refl refl refl h.beside in
    record {
      path = hq;
      level_is = long;
      outside = λ o. let e = in_block p q d hq long (within_from_overlap p q hp hq (omega arith) o) in over_is_outside n u v w m t s.face g.face g.i g.j hm ht f.0 fits_u fits_v h.beside e.0 e.1;
      inner = r;
      inner_path = c.is_path;
      inside = leaves_from_within r p within (omega arith);
      shares =
          record {
            side = m;
            is_side = hm;
            shares = shares_from_beside m r q hm c.is_path hq (long_r ∙ sym long) (subst (λ x. IsBeside (2 ^ x) m (square_of r).face (square_of r).i (square_of r).j g.face g.i g.j) (sym c.long) at);
          };
    }

-- ---- on the border is over a side

pub over_from_border : (p q : Path) (d : ℕ) → IsPath p → IsOnBorder p (length p.digits + d) q → IsOverSides (square_of p) d 4 q
over_from_border p q d hp h =
    let s = square_of p in
    let g = square_of q in
    let f = square_facts p hp s refl in
    let level : s.level ≡ length p.digits = (IsSquare-square_of p hp).level in
    let hq = h.path in
    let r = h.inner in
    let hr = h.inner_path in
    let m = h.shares.side in
    let hm = h.shares.is_side in
    let shares = h.shares.shares in
    let long_r : length r.digits ≡ length p.digits + d = shares.one_level ∙ h.level_is in
    let w = 2 ^ d in
    let n = 2 ^ (s.level + d) in
    let u = s.i * w in
    let v = s.j * w in
    let e = in_block p r d hr long_r (within_from_leaves r p hr hp h.inside) in
    let deep : length r.digits ≡ s.level + d = long_r ∙ ap (λ x. x + d) (sym level) in
    let at : IsBeside n m s.face (square_of r).i (square_of r).j g.face g.i g.j =
    subst (λ x. IsBeside n m x (square_of r).i (square_of r).j g.face g.i g.j) e.0
    (subst (λ x. IsBeside (2 ^ x) m (square_of r).face (square_of r).i (square_of r).j g.face g.i g.j) deep (beside_from_shares m r q hm hr hq shares)) in
    let lies =
    outside_is_over n u v w m s.face (square_of r).i (square_of r).j g.face g.i g.j hm f.0 (block_fits s.i s.level d f.2) (block_fits s.j s.level d f.3) e.1
    (λ same k. h.outside (overlap_in p q hp hq (within_block p q d hp hq h.level_is same k))) at in
    record {
      side = m;
      is_side = hm;
      over =
          record {
            along = lies.along;
            is_along = lies.is_along;
            over =
                record {
                  level_is = (IsSquare-square_of q hq).level ∙ h.level_is ∙ ap (λ x. x + d) (sym level);
                  beside = beside_moved refl refl refl lies.column lies.row refl refl refl at;
                };
          };
    }

-- ---- one cell lies over each place

pub one_over : (s : FaceIj) (d m t : ℕ) (q r : Path) → s.face < 6 → s.i < 2 ^ s.level → s.j < 2 ^ s.level → m < 4 → t < 2 ^ d → IsPath q
    → IsPath r → IsOverAt s d m t q → IsOverAt s d m t r → q ≡ r
one_over s d m t q r hf hi hj hm ht hq hr h k =
    let w = 2 ^ d in
    let n = 2 ^ (s.level + d) in
    let u = s.i * w in
    let v = s.j * w in
    let fits_u : u + w ≤ n = block_fits s.i s.level d hi in
    let fits_v : v + w ≤ n = block_fits s.j s.level d hj in
    let inside = along_in_block u v w t m ht hm in
    let right = inside.right in
    let up = inside.up in
    let long : length q.digits ≡ length r.digits = sym (IsSquare-square_of q hq).level ∙ h.level_is ∙ sym k.level_is ∙ (IsSquare-square_of r hr).level in
    let e = same_beside n m s.face (u + column_on m t (w - 1)) (v + row_on m t (w - 1)) (square_of q).face (square_of q).i (square_of q).j (square_of r).face (square_of r).i (square_of r).j hm hf (omega arith) (omega arith) h.beside k.beside in
    one_path q r hq hr long e.0 e.1 e.2

-- ---- as the code has them

-- the column and the row of the finer square at a place along a side fit
pub record IsFinerAt (s : FaceIj) (d m t x y : ℕ) : Type 0 where
  pub column : s.i * 2 ^ d % 2 ^ 32 + x ≡ s.i * 2 ^ d + column_on m t (2 ^ d - 1)
  pub row : s.j * 2 ^ d % 2 ^ 32 + y ≡ s.j * 2 ^ d + row_on m t (2 ^ d - 1)
  pub column_below : s.i * 2 ^ d % 2 ^ 32 + x < 2 ^ (s.level + d)
  pub row_below : s.j * 2 ^ d % 2 ^ 32 + y < 2 ^ (s.level + d)
  pub small : 2 ^ (s.level + d) ≤ 2 ^ 30

pub finer_at : (s : FaceIj) (d m t x y : ℕ) → s.level + d ≤ 30 → s.i < 2 ^ s.level → s.j < 2 ^ s.level → m < 4 → t < 2 ^ d
    → x ≡ column_on m t (1 * 2 ^ d % 2 ^ 32 - 1) → y ≡ row_on m t (1 * 2 ^ d % 2 ^ 32 - 1) → IsFinerAt s d m t x y
finer_at s d m t x y most hi hj hm ht ex ey =
    let one = one_shl d 32 (let l = most in omega arith) in
    let small : 2 ^ (s.level + d) ≤ 2 ^ 30 = pow-le-pow_right {n = 2} (omega arith) {i = s.level + d} {j = 30} most in
    let fits_u = block_fits s.i s.level d hi in
    let fits_v = block_fits s.j s.level d hj in
    let inside = along_in_block (s.i * 2 ^ d) (s.j * 2 ^ d) (2 ^ d) t m ht hm in
    let right = inside.right in
    let up = inside.up in
    let pos = pow_pos d in
    let x_is : x ≡ column_on m t (2 ^ d - 1) = ex ∙ ap (λ z. column_on m t (z - 1)) one in
    let y_is : y ≡ row_on m t (2 ^ d - 1) = ey ∙ ap (λ z. row_on m t (z - 1)) one in
    record {
      column = omega arith;
      row = omega arith;
      column_below = omega arith;
      row_below = omega arith;
      small = small;
    }

pub over_found : (s : FaceIj) (d m t x y : ℕ) (q : Path) → IsFinerAt s d m t x y → (square_of q).level ≡ s.level + d
    → IsBeside (2 ^ (s.level + d)) m s.face (s.i * 2 ^ d % 2 ^ 32 + x) (s.j * 2 ^ d % 2 ^ 32 + y) (square_of q).face (square_of q).i (square_of q).j
    → IsOverAt s d m t q
over_found s d m t x y q at level h = record {
  level_is = level;
  beside = beside_moved refl refl refl at.column at.row refl refl refl h;
}
