-- A cell in its tile: the column and the row in its ancestor four levels up.
use Rattle.std.proofs.Common.{◌≡◌, ℕ, suc, ◌+◌, ◌-◌, ◌*◌, ◌/◌, ◌%◌, ◌^◌, ◌<◌, ◌≤◌, length, sym, ◌∙◌, ap, ap₂, arith, subst}
use mathlib.Core.Path.{transport}
use Rattle.s2id_core.specs.Path.{Path, IsPath, place_of}
use Rattle.s2id_core.proofs.Powers.{four_step}
use Rattle.s2id_cube.specs.declared.face_ij.FaceIj.{FaceIj}
use Rattle.s2id_cube.specs.FourLevels.{AreFourLevels}
use Rattle.s2id_cube.specs.Grid.{IsBeside}
use Rattle.s2id_cube.specs.Loops.{square_at, IsSquare, IsInTile, IsCellSquare, IsOverSide}
use Rattle.s2id_cube.specs.Square.{square_of}
use Rattle.s2id_cube.proofs.Beside.{beside_step}
use Rattle.s2id_cube.proofs.Grid.{IsStep}
use Rattle.s2id_cube.proofs.Groups.{deeper, four_more}
use Rattle.s2id_cube.proofs.Nesting.{above_at}
use Rattle.s2id_cube.proofs.Shared.{IsSquare-square_of}
use Rattle.s2id_cube.proofs.Squares.{IsSquare-square_at, square_of_place}

-- the cell that four positions lead to from its tile
pub record IsTileCell (level q place i j : ℕ) : Type 0 where
  pub below : place < 6 * 4 ^ level
  pub face : (square_at level place).face ≡ (square_at (level - 4) q).face
  pub at_i : (square_at level place).i ≡ 16 * (square_at (level - 4) q).i + i
  pub at_j : (square_at level place).j ≡ 16 * (square_at (level - 4) q).j + j

four_steps : (k : ℕ) → 4 ^ deeper k ≡ 256 * 4 ^ k
four_steps k =
    let a = four_step k in
    let b = four_step (suc k) in
    let c = four_step (suc (suc k)) in
    let d = four_step (suc (suc (suc k))) in
    omega arith

-- the place of a tile
pub tile_below : (level place : ℕ) → 4 ≤ level → place < 6 * 4 ^ level → place / 256 < 6 * 4 ^ (level - 4)
tile_below level place fine below =
    let e : deeper (level - 4) ≡ level = omega arith in
    let wide : 4 ^ level ≡ 256 * 4 ^ (level - 4) = ap (λ x. 4 ^ x) (sym e) ∙ four_steps (level - 4) in
    omega arith

pub tile_cell : (level q p place i j turned : ℕ) → 4 ≤ level → q < 6 * 4 ^ (level - 4)
    → AreFourLevels (square_at (level - 4) q).orientation p i j turned → place ≡ q * 256 + p → IsTileCell level q place i j
tile_cell level q p place i j turned fine below steps ep =
    let k = level - 4 in
    let e : deeper k ≡ level = omega arith in
    let wide : 4 ^ level ≡ 256 * 4 ^ k = ap (λ x. 4 ^ x) (sym e) ∙ four_steps k in
    let small = steps.below in
    let deep : 4 + k ≡ level = omega arith in
    let inside : place < 6 * 4 ^ level = omega arith in
    let same : square_at (deeper k) (q * 256 + p) ≡ square_at level place = ap₂ square_at e (sym ep) in
    let more = four_more k q p small in
    let up = above_at 4 k place (subst (λ n. place < 6 * 4 ^ n) (sym deep) inside) in
    let top : place / 4 ^ 4 ≡ q = omega arith in
    record {
      below = inside;
      face = ap (λ n. (square_at n place).face) (sym deep) ∙ up.face ∙ ap (λ x. (square_at k x).face) top;
      at_i = ap (λ (s : FaceIj). s.i) (sym same) ∙ more.at_i ∙ ap (λ x. 16 * (square_at k q).i + x) steps.at_i;
      at_j = ap (λ (s : FaceIj). s.j) (sym same) ∙ more.at_j ∙ ap (λ x. 16 * (square_at k q).j + x) steps.at_j;
    }

-- a cell's square by its level and its place
pub square_by_place : (p : Path) → IsPath p → (level place : ℕ) → length p.digits ≡ level → place_of p ≡ place → square_of p ≡ square_at level place
square_by_place p path level place el ep = square_of_place p path ∙ ap₂ square_at el ep

-- by an entry for a column and a row of the tile
pub entry_leads : (level place start column row e turned : ℕ) → 4 ≤ level → place < 6 * 4 ^ level
    → start ≡ 256 * (square_at (level - 4) (place / 256)).orientation → row < 16
    → AreFourLevels (start / 256) (e % 2 ^ 62) ((16 * column + row) / 16) ((16 * column + row) % 16) turned
    → IsTileCell level (place / 256) (place - place % 256 + e % 256) column row
entry_leads level place start column row e turned fine below es hr steps =
    let small = steps.below in
    let o : start / 256 ≡ (square_at (level - 4) (place / 256)).orientation = omega arith in
    let i : (16 * column + row) / 16 ≡ column = omega arith in
    let j : (16 * column + row) % 16 ≡ row = omega arith in
    tile_cell level (place / 256) (e % 2 ^ 62) (place - place % 256 + e % 256) column row turned fine (tile_below level place fine below)
    (transport (λ t. AreFourLevels (o t) (e % 2 ^ 62) (i t) (j t) turned) steps) (omega arith)

-- a cell is in its tile as an entry for its last four positions says
pub tile_is : (p : Path) → IsPath p → (level place start column row turned : ℕ) → 4 ≤ level → level ≤ 30 → place < 6 * 4 ^ level
    → length p.digits ≡ level → place_of p ≡ place → start ≡ 256 * (square_at (level - 4) (place / 256)).orientation
    → AreFourLevels (start / 256) (place % 256) column row turned → column < 16 → row < 16
    → IsInTile (square_of p) level place start column row
tile_is p path level place start column row turned fine most below el ep es steps hc hr =
    let o : start / 256 ≡ (square_at (level - 4) (place / 256)).orientation = omega arith in
    let l = tile_cell level (place / 256) (place % 256) place column row turned fine (tile_below level place fine below) (subst (λ x. AreFourLevels x (place % 256) column row turned) o steps) (omega arith) in
    let same = square_by_place p path level place el ep in
    record {
      fine = fine;
      most = most;
      below = below;
      row_starts = es;
      column_below = hc;
      row_below = hr;
      is_square = subst (IsSquare level) (sym same) (IsSquare-square_at level place below);
      face = ap (λ (s : FaceIj). s.face) same ∙ l.face;
      at_i = ap (λ (s : FaceIj). s.i) same ∙ l.at_i;
      at_j = ap (λ (s : FaceIj). s.j) same ∙ l.at_j;
    }

-- a cell in the same tile, one step over a side
pub stepped_over : (s : FaceIj) (level place start column row side : ℕ) (q : Path) → IsInTile s level place start column row → side < 4
    → IsPath q → (square_of q).level ≡ level → (square_of q).face ≡ (square_at (level - 4) (place / 256)).face
    → IsStep side s.i s.j (square_of q).i (square_of q).j → IsOverSide s side q
stepped_over s level place start column row side q tile hs path el ef step =
    let t = square_of q in
    let is = tile.is_square in
    let its = IsSquare-square_of q path in
    let own : s.level ≡ level = is.level in
    let here : IsSquare s.level s = subst (λ k. IsSquare k s) (sym own) is in
    let there : IsSquare s.level t = subst (λ k. IsSquare k t) (sym its.level ∙ el ∙ sym own) its in
    let face : s.face ≡ t.face = tile.face ∙ sym ef in
    let next : IsBeside (2 ^ s.level) side s.face s.i s.j s.face t.i t.j = beside_step (hs, here.face, here.i, here.j, there.i, there.j, step) in
    record {
      level_is = el ∙ sym own;
      beside = subst (λ f. IsBeside (2 ^ s.level) side s.face s.i s.j f t.i t.j) face next;
    }

-- the square of a cell
pub own_square : (p : Path) → IsPath p → (s : FaceIj) → s ≡ square_of p → IsCellSquare s
own_square p path s e =
    let is = IsSquare-square_of p path in
    let most = path.at_most in
    let level = is.level in
    subst IsCellSquare (sym e) (record { fine = omega arith; is = subst (λ k. IsSquare k (square_of p)) (sym level) is })
