-- The tables of four levels, entry by entry.
use Rattle.std.proofs.Common.{◌≡◌, ℕ, zero, suc, ◌+◌, ◌*◌, ◌/◌, ◌%◌, ◌^◌, ◌<◌, ◌&&◌, ◌||◌, Bool, true, List, [], ◌∷◌, length, map, get_or, sym, ◌∙◌, ap, ap₂, refl, arith, subst, ◌⊎◌, inl, inr, false}
use Rattle.std.specs.List.{range_with_len}
use Rattle.std.proofs.Math.Dec.{eqb, ltb}
use Rattle.std.proofs.lemmas.Bool.{eqb-true, ltb-true}
use Rattle.std.proofs.lemmas.List.FromFn.{get_or-map-range_with_len}
use Rattle.s2id_core.specs.Path.{last_digits}
use Rattle.s2id_cube.specs.Loops.{IsSquare}
use Rattle.s2id_cube.specs.declared.curve.TheConstants.{SQUARES, PLACES}
use Rattle.s2id_cube.specs.declared.face_ij.FaceIj.{FaceIj}
use Rattle.s2id_cube.specs.Square.{quadrant, turned, quarter, square_after}
use Rattle.s2id_cube.specs.FourLevels.{uncut, four_levels, AreFourLevels}
use Rattle.s2id_cube.proofs.Squares.{IsSquare-quarter}

-- four steps end in one of 16 columns and 16 rows
pub four_is : (o b : ℕ) → o < 4 → IsSquare 4 (four_levels o b)
unfolding four_levels square_after last_digits
four_is o b h =
    let start : IsSquare 0 (uncut o) = record { level = refl; face = omega arith; i = omega arith; j = omega arith; orientation = h } in
    let first = IsSquare-quarter 0 (b / 64 % 4) (uncut o) (omega arith) start in
    let second = IsSquare-quarter 1 (b / 16 % 4) (quarter (b / 64 % 4) (uncut o)) (omega arith) first in
    let third = IsSquare-quarter 2 (b / 4 % 4) (quarter (b / 16 % 4) (quarter (b / 64 % 4) (uncut o))) (omega arith) second in
    IsSquare-quarter 3 (b / 1 % 4) (quarter (b / 4 % 4) (quarter (b / 16 % 4) (quarter (b / 64 % 4) (uncut o)))) (omega arith) third

-- ---- squares by positions

pub packed : FaceIj → ℕ
packed s = s.orientation * 2 ^ 62 + s.i * 2 ^ 32 + s.j

square_word : ℕ → ℕ
square_word n = packed (four_levels (n / 256) (n % 256))

squares_are : SQUARES ≡ map square_word (range_with_len 0 1024)
unfolding square_word packed four_levels square_after quarter quadrant turned last_digits
squares_are = refl

pub record IsSquareEntry (o b e : ℕ) : Type 0 where
  pub steps : AreFourLevels o b (e % 2 ^ 62 / 2 ^ 32) (e % 2 ^ 32) (e / 2 ^ 62)
  pub column : e % 2 ^ 62 / 2 ^ 32 < 16
  pub row : e % 2 ^ 32 < 16
  pub next : e / 2 ^ 54 ≡ 256 * (e / 2 ^ 62)

unpacked : (o b e : ℕ) → o < 4 → b < 256 → e ≡ packed (four_levels o b) → IsSquareEntry o b e
unfolding packed
unpacked o b e ho hb is =
    let s = four_levels o b in
    let q = four_is o b ho in
    let i : s.i < 16 = q.i in
    let j : s.j < 16 = q.j in
    let at_i : s.i ≡ e % 2 ^ 62 / 2 ^ 32 = omega arith in
    let at_j : s.j ≡ e % 2 ^ 32 = omega arith in
    let at_orientation : s.orientation ≡ e / 2 ^ 62 = omega arith in
    record {
      steps = record { below = hb; at_i = at_i; at_j = at_j; at_orientation = at_orientation };
      column = omega arith;
      row = omega arith;
      next = omega arith;
    }

pub square_entry_is : (o b : ℕ) → o < 4 → b < 256 → IsSquareEntry o b (get_or SQUARES (256 * o + b) 0)
unfolding square_word
square_entry_is o b ho hb =
    let n = 256 * o + b in
    let at : get_or SQUARES n 0 ≡ square_word n = ap (λ (xs : List ℕ). get_or xs n 0) squares_are ∙ get_or-map-range_with_len square_word 0 1024 n n 0 (omega arith) (omega arith) in
    let row : n / 256 ≡ o = omega arith in
    let column : n % 256 ≡ b = omega arith in
    unpacked o b (get_or SQUARES n 0) ho hb (at ∙ ap₂ (λ x y. packed (four_levels x y)) row column)

pub square_entry_from : (start b : ℕ) → start < 1024 → start % 256 ≡ 0 → b < 256
    → IsSquareEntry (start / 256) b (get_or SQUARES (start + b) 0)
square_entry_from start b hs whole hb =
    subst (λ n. IsSquareEntry (start / 256) b (get_or SQUARES n 0)) (let e : 256 * (start / 256) + b ≡ start + b = omega arith in e) (square_entry_is (start / 256) b (omega arith) hb)

-- ---- positions by squares

-- whether an entry's positions lead where it stands, and are two alone in the corner of a whole face
fits : ℕ → ℕ → Bool
fits n e =
    let s = four_levels (n / 256) (e % 2 ^ 62) in
    ltb (e % 2 ^ 62) 256 && (eqb s.i (n % 256 / 16) && (eqb s.j (n % 16) && (eqb s.orientation (e / 2 ^ 62) && (ltb 511 n || (ltb 63 (n % 256) || (ltb 3 (n % 16) || ltb (e % 2 ^ 62) 16))))))

all_fit : ℕ → List ℕ → Bool
all_fit n [] = true
all_fit n (e ∷ es) = fits n e && all_fit (suc n) es

places_fit : all_fit 0 PLACES ≡ true
unfolding all_fit fits four_levels square_after quarter quadrant turned last_digits
places_fit = refl

both : (a b : Bool) → (a && b) ≡ true → (a ≡ true) × (b ≡ true)
both true b h = (refl, h)
both false b h = absurd (cc)

either : (a b : Bool) → (a || b) ≡ true → (a ≡ true) ⊎ (b ≡ true)
either true b h = inl refl
either false b h = inr h

all_fit_at : (es : List ℕ) (n k : ℕ) → k < length es → all_fit n es ≡ true → fits (n + k) (get_or es k 0) ≡ true
unfolding all_fit
all_fit_at [] n k h all = absurd (omega arith)
all_fit_at (e ∷ es) n zero h all = ap (λ x. fits x e) (let a : n + 0 ≡ n = omega arith in a) ∙ (both (fits n e) (all_fit (suc n) es) all).0
all_fit_at (e ∷ es) n (suc k) h all = ap (λ x. fits x (get_or es k 0)) (let a : n + suc k ≡ suc n + k = omega arith in a) ∙ all_fit_at es (suc n) k (omega arith) (both (fits n e) (all_fit (suc n) es) all).1

pub record IsPlaceEntry (o x e : ℕ) : Type 0 where
  pub steps : AreFourLevels o (e % 2 ^ 62) (x / 16) (x % 16) (e / 2 ^ 62)
  pub corner : o < 2 → x / 16 < 4 → x % 16 < 4 → e % 2 ^ 62 < 16
  pub next : e / 2 ^ 54 ≡ 256 * (e / 2 ^ 62)

fitting : (o x n e : ℕ) → n / 256 ≡ o → n % 256 ≡ x → fits n e ≡ true → IsPlaceEntry o x e
unfolding fits
fitting o x n e row column h =
    let s = four_levels (n / 256) (e % 2 ^ 62) in
    let same : s ≡ four_levels o (e % 2 ^ 62) = ap (λ y. four_levels y (e % 2 ^ 62)) row in
    let a = both _ _ h in
    let b = both _ _ a.1 in
    let c = both _ _ b.1 in
    let d = both _ _ c.1 in
    let below : e % 2 ^ 62 < 256 = ltb-true (e % 2 ^ 62) 256 a.0 in
    let at_i = eqb-true s.i (n % 256 / 16) b.0 in
    let at_j = eqb-true s.j (n % 16) c.0 in
    let at_orientation = eqb-true s.orientation (e / 2 ^ 62) d.0 in
    record {
      steps = record {
        below = below;
        at_i = ap (λ (t : FaceIj). t.i) (sym same) ∙ at_i ∙ ap (λ y. y / 16) column;
        at_j = ap (λ (t : FaceIj). t.j) (sym same) ∙ at_j ∙ (let m : n % 16 ≡ x % 16 = omega arith in m);
        at_orientation = ap (λ (t : FaceIj). t.orientation) (sym same) ∙ at_orientation;
      };
      next = omega arith;
      corner = λ small left low. elim (either _ _ d.1) [
        | inl big ↦ absurd (let g = ltb-true 511 n big in omega arith)
        | inr more ↦ elim (either _ _ more) [
          | inl big ↦ absurd (let g = ltb-true 63 (n % 256) big in omega arith)
          | inr last ↦ elim (either _ _ last) [
            | inl big ↦ absurd (let g = ltb-true 3 (n % 16) big in omega arith)
            | inr few ↦ ltb-true (e % 2 ^ 62) 16 few
          ]
        ]
      ];
    }

pub place_entry_is : (o x : ℕ) → o < 4 → x < 256 → IsPlaceEntry o x (get_or PLACES (256 * o + x) 0)
place_entry_is o x ho hx =
    let n = 256 * o + x in
    fitting o x n (get_or PLACES n 0) (omega arith) (omega arith) (ap (λ y. fits y (get_or PLACES n 0)) (let e : n ≡ 0 + n = omega arith in e) ∙ all_fit_at PLACES 0 n (omega arith) places_fit)

pub place_entry_from : (start x : ℕ) → start < 1024 → start % 256 ≡ 0 → x < 256 → IsPlaceEntry (start / 256) x (get_or PLACES (start + x) 0)
place_entry_from start x hs whole hx =
    subst (λ n. IsPlaceEntry (start / 256) x (get_or PLACES n 0)) (let e : 256 * (start / 256) + x ≡ start + x = omega arith in e) (place_entry_is (start / 256) x (omega arith) hx)

-- the orientation of an entry is that of the row that starts by it
pub row_of_entry : (e : ℕ) → e / 2 ^ 54 / 256 ≡ e / 2 ^ 62
row_of_entry e = omega arith

pub place_entry_at : (o i j : ℕ) → o < 4 → i < 16 → j < 16 → let e = get_or PLACES (256 * o + (16 * i + j)) 0 in AreFourLevels o (e % 2 ^ 62) i j (e / 2 ^ 62)
place_entry_at o i j ho hi hj =
    let x = 16 * i + j in
    let e = get_or PLACES (256 * o + x) 0 in
    let is = place_entry_is o x ho (omega arith) in
    let column : x / 16 ≡ i = omega arith in
    let row : x % 16 ≡ j = omega arith in
    subst (λ b. AreFourLevels o (e % 2 ^ 62) i b (e / 2 ^ 62)) row (subst (λ a. AreFourLevels o (e % 2 ^ 62) a (x % 16) (e / 2 ^ 62)) column is.steps)
