-- Squares and places, four levels at a time.
use Rattle.std.proofs.Common.{◌≡◌, ℕ, zero, suc, ◌+◌, ◌-◌, ◌*◌, ◌/◌, ◌%◌, ◌^◌, ◌<◌, ◌≤◌, sym, ◌∙◌, ap, ap₂, refl, arith, subst}
use Rattle.std.proofs.Math.Nat.{pow-suc, pow-le-pow_right}
use Rattle.std.proofs.lemmas.Nat.{shr-shr}
use Rattle.s2id_core.specs.Path.{last_digits}
use Rattle.s2id_core.proofs.Powers.{four_step, four_pos}
use Rattle.s2id_cube.specs.declared.face_ij.FaceIj.{FaceIj}
use Rattle.s2id_cube.specs.Square.{quadrant, turned, quarter, whole_face, square_after}
use Rattle.s2id_cube.specs.FourLevels.{four_levels}
use Rattle.s2id_cube.specs.Loops.{IsSquare, square_at, square_in, AreWoven}
use Rattle.s2id_cube.proofs.Squares.{IsSquare-square_at, face-square_at}
use Rattle.s2id_cube.proofs.LevelTables.{IsSquareEntry, IsPlaceEntry, row_of_entry}

-- ---- four steps from any square

-- the square t lies in the square s as four positions from an orientation say
pub record IsFourBelow (s t : FaceIj) (b : ℕ) : Type 0 where
  pub at_i : t.i ≡ 16 * s.i + (four_levels s.orientation b).i
  pub at_j : t.j ≡ 16 * s.j + (four_levels s.orientation b).j
  pub at_orientation : t.orientation ≡ (four_levels s.orientation b).orientation

abbrev pub deeper : ℕ → ℕ
deeper k = suc (suc (suc (suc k)))

four_quarters : (s : FaceIj) (b : ℕ)
    → IsFourBelow s (quarter (b / 1 % 4) (quarter (b / 4 % 4) (quarter (b / 16 % 4) (quarter (b / 64 % 4) s)))) b
unfolding four_levels square_after last_digits quarter
four_quarters s b = record { at_i = omega arith; at_j = omega arith; at_orientation = refl }

pub four_more : (k q b : ℕ) → b < 256 → IsFourBelow (square_at k q) (square_at (deeper k) (q * 256 + b)) b
unfolding square_at
four_more k q b h =
    let x = q * 256 + b in
    let d4 : b / 1 % 4 ≡ x % 4 = omega arith in
    let d3 : b / 4 % 4 ≡ x / 4 % 4 = omega arith in
    let d2 : b / 16 % 4 ≡ x / 4 / 4 % 4 = omega arith in
    let d1 : b / 64 % 4 ≡ x / 4 / 4 / 4 % 4 = omega arith in
    let up : q ≡ x / 4 / 4 / 4 / 4 = omega arith in
    let same : quarter (b / 1 % 4) (quarter (b / 4 % 4) (quarter (b / 16 % 4) (quarter (b / 64 % 4) (square_at k q)))) ≡ square_at (deeper k) x = λ t. quarter (d4 t) (quarter (d3 t) (quarter (d2 t) (quarter (d1 t) (square_at k (up t))))) in
    subst (λ t. IsFourBelow (square_at k q) t b) same (four_quarters (square_at k q) b)

-- ---- two positions 0 below a face lead back to where they began

pub record AreAlike (s t : FaceIj) : Type 0 where
  pub i : s.i ≡ t.i
  pub j : s.j ≡ t.j
  pub orientation : s.orientation ≡ t.orientation

quarters_alike : (d : ℕ) (s t : FaceIj) → AreAlike s t → AreAlike (quarter d s) (quarter d t)
unfolding quarter
quarters_alike d s t h = record {
  i = ap₂ (λ x y. 2 * x + quadrant y d / 2) h.i h.orientation;
  j = ap₂ (λ x y. 2 * x + quadrant y d % 2) h.j h.orientation;
  orientation = ap (λ x. turned x d) h.orientation;
}

corner_of : (o : ℕ) (s : FaceIj) → o < 2 → s.i ≡ 0 → s.j ≡ 0 → s.orientation ≡ o → AreAlike (quarter 0 (quarter 0 s)) s
unfolding quarter quadrant turned
corner_of zero s h i j e = record {
  i = ap₂ (λ x y. 2 * (2 * x + quadrant y 0 / 2) + quadrant (turned y 0) 0 / 2) i e ∙ sym i;
  j = ap₂ (λ x y. 2 * (2 * x + quadrant y 0 % 2) + quadrant (turned y 0) 0 % 2) j e ∙ sym j;
  orientation = ap (λ x. turned (turned x 0) 0) e ∙ sym e;
}
corner_of (suc zero) s h i j e = record {
  i = ap₂ (λ x y. 2 * (2 * x + quadrant y 0 / 2) + quadrant (turned y 0) 0 / 2) i e ∙ sym i;
  j = ap₂ (λ x y. 2 * (2 * x + quadrant y 0 % 2) + quadrant (turned y 0) 0 % 2) j e ∙ sym j;
  orientation = ap (λ x. turned (turned x 0) 0) e ∙ sym e;
}
corner_of (suc (suc o)) s h i j e = absurd (omega arith)

pub padded : (k f d : ℕ) → d < 4 ^ k → AreAlike (square_at (suc (suc k)) (f * 4 ^ suc (suc k) + d)) (square_at k (f * 4 ^ k + d))
unfolding square_at whole_face
padded zero f d h =
    let x = f * 4 ^ suc (suc zero) + d in
    let a : x % 4 ≡ 0 = omega arith in
    let b : x / 4 % 4 ≡ 0 = omega arith in
    let c : x / 4 / 4 ≡ f = omega arith in
    let e : f * 4 ^ 0 + d ≡ f = omega arith in
    let top : square_at (suc (suc zero)) x ≡ quarter 0 (quarter 0 (whole_face f)) = λ t. quarter (a t) (quarter (b t) (whole_face (c t))) in
    subst (λ s. AreAlike s (whole_face (f * 4 ^ 0 + d))) (sym top) (subst (λ y. AreAlike (quarter 0 (quarter 0 (whole_face f))) (whole_face y)) (sym e) (corner_of (f % 2) (whole_face f) (omega arith) refl refl refl))
padded (suc k) f d h =
    let s1 = four_step k in
    let s2 = four_step (suc k) in
    let s3 = four_step (suc (suc k)) in
    let x = f * 4 ^ suc (suc (suc k)) + d in
    let y = f * 4 ^ suc k + d in
    let bx : f * 4 ^ suc (suc (suc k)) ≡ 4 * (f * 4 ^ suc (suc k)) = ap (λ z. f * z) s3 ∙ turn f (4 ^ suc (suc k)) in
    let by : f * 4 ^ suc k ≡ 4 * (f * 4 ^ k) = ap (λ z. f * z) s1 ∙ turn f (4 ^ k) in
    let dx : x % 4 ≡ d % 4 = omega arith in
    let dy : y % 4 ≡ d % 4 = omega arith in
    let ux : x / 4 ≡ f * 4 ^ suc (suc k) + d / 4 = omega arith in
    let uy : y / 4 ≡ f * 4 ^ k + d / 4 = omega arith in
    let up = padded k f (d / 4) (omega arith) in
    let left : square_at (suc (suc (suc k))) x ≡ quarter (d % 4) (square_at (suc (suc k)) (f * 4 ^ suc (suc k) + d / 4)) = ap₂ (λ p q. quarter p (square_at (suc (suc k)) q)) dx ux in
    let right : square_at (suc k) y ≡ quarter (d % 4) (square_at k (f * 4 ^ k + d / 4)) = ap₂ (λ p q. quarter p (square_at k q)) dy uy in
    subst (λ s. AreAlike s (square_at (suc k) y)) (sym left) (subst (λ s. AreAlike (quarter (d % 4) (square_at (suc (suc k)) (f * 4 ^ suc (suc k) + d / 4))) s) (sym right) (quarters_alike (d % 4) _ _ up))
  where
    turn : (a b : ℕ) → a * (4 * b) ≡ 4 * (a * b)
    turn a b = omega arith

-- ---- powers of 256

pub bytes_step : (g : ℕ) → 256 ^ suc g ≡ 256 * 256 ^ g
bytes_step g = let e = pow-suc 256 g in omega arith

pub bytes_pow : (g : ℕ) → 4 ^ (4 * g) ≡ 256 ^ g
bytes_pow zero = refl
bytes_pow (suc g) =
    let e : 4 * suc g ≡ deeper (4 * g) = omega arith in
    let a = four_step (4 * g) in
    let b = four_step (suc (4 * g)) in
    let c = four_step (suc (suc (4 * g))) in
    let d = four_step (suc (suc (suc (4 * g)))) in
    let up = bytes_pow g in
    let step = bytes_step g in
    ap (λ x. 4 ^ x) e ∙ (let all : 4 ^ deeper (4 * g) ≡ 256 ^ suc g = omega arith in all)

-- one group more
pub group_more : (g q b : ℕ) → b < 256 → IsFourBelow (square_at (4 * g) q) (square_at (4 * (g + 1)) (q * 256 + b)) b
group_more g q b h = subst (λ n. IsFourBelow (square_at (4 * g) q) (square_at n (q * 256 + b)) b) (let e : deeper (4 * g) ≡ 4 * (g + 1) = omega arith in e) (four_more (4 * g) q b h)

square_in_is : (f g d : ℕ) → f < 6 → d < 256 ^ g → IsSquare (4 * g) (square_in f g d)
unfolding square_in
square_in_is f g d hf hd = IsSquare-square_at (4 * g) (f * 256 ^ g + d) (let e = bytes_pow g in bound f (256 ^ g) d hf hd (4 ^ (4 * g)) e)
  where
    bound : (f p d : ℕ) → f < 6 → d < p → (w : ℕ) → w ≡ p → f * p + d < 6 * w
    bound f p d hf hd w e = grind arith

pub square_in_more : (f g d b : ℕ) → b < 256 → IsFourBelow (square_in f g d) (square_in f (g + 1) (d * 256 + b)) b
unfolding square_in
square_in_more f g d b h =
    let step = bytes_step g in
    let p = 256 ^ g in
    let e : 256 ^ (g + 1) ≡ 256 * p = ap (λ x. 256 ^ x) (let s : g + 1 ≡ suc g = omega arith in s) ∙ step in
    let turn : f * 256 ^ (g + 1) ≡ 256 * (f * p) = ap (λ x. f * x) e ∙ swap f p in
    subst (λ q. IsFourBelow (square_at (4 * g) (f * p + d)) (square_at (4 * (g + 1)) q) b) (let s : (f * p + d) * 256 + b ≡ f * 256 ^ (g + 1) + (d * 256 + b) = omega arith in s) (group_more g (f * p + d) b h)
  where
    swap : (f p : ℕ) → f * (256 * p) ≡ 256 * (f * p)
    swap f p = omega arith

-- how far a square of some groups reaches
pub square_in_narrow : (f g d : ℕ) → f < 6 → g < 8 → 16 * d < 256 ^ (g + 1)
    → ((square_in f (g + 1) d).i < 2 ^ 30) × ((square_in f (g + 1) d).j < 2 ^ 30)
unfolding square_in
square_in_narrow f g d hf hg hd =
    let k = suc (suc (4 * g)) in
    let deep : 4 * (g + 1) ≡ suc (suc k) = omega arith in
    let wide : 256 ^ (g + 1) ≡ 4 ^ suc (suc k) = sym (bytes_pow (g + 1)) ∙ ap (λ x. 4 ^ x) deep in
    let s1 = four_step k in
    let s2 = four_step (suc k) in
    let below : d < 4 ^ k = omega arith in
    let alike = padded k f d below in
    let is = IsSquare-square_at k (f * 4 ^ k + d) (bound f (4 ^ k) d hf below) in
    let most : 2 ^ k ≤ 2 ^ 30 = pow-le-pow_right {n = 2} (omega arith) {i = k} {j = 30} (omega arith) in
    let same : square_at (4 * (g + 1)) (f * 256 ^ (g + 1) + d) ≡ square_at (suc (suc k)) (f * 4 ^ suc (suc k) + d) = ap₂ (λ n w. square_at n (f * w + d)) deep wide in
    let P : FaceIj → Type 0 = λ s. (s.i < 2 ^ 30) × (s.j < 2 ^ 30) in
    let ai = alike.i in
    let aj = alike.j in
    let bi = is.i in
    let bj = is.j in
    subst P (sym same) (omega arith, omega arith)
  where
    bound : (f p d : ℕ) → f < 6 → d < p → f * p + d < 6 * p
    bound f p d hf hd = grind arith

-- the square of all eight groups is that of the leaf
pub leaf_in : (f d : ℕ) → d < 2 ^ 60 → AreAlike (square_in f 8 d) (square_at 30 (f * 2 ^ 60 + d))
unfolding square_in
leaf_in f d h = padded 30 f d h

-- ---- down, by the positions

-- rest has what is left of the positions of d, the highest first
pub record IsDown (f d g rest square orientation : ℕ) : Type 0 where
  pub at_rest : rest ≡ d * 256 ^ g % 2 ^ 64
  pub at_square : square % 2 ^ 62 ≡ (square_in f g (d * 256 ^ g / 2 ^ 64)).i * 2 ^ 32 + (square_in f g (d * 256 ^ g / 2 ^ 64)).j
  pub at_orientation : orientation ≡ (square_in f g (d * 256 ^ g / 2 ^ 64)).orientation

pub down_none : (f d o : ℕ) → d < 2 ^ 60 → o ≡ f % 2 → IsDown f d 0 d 0 o
unfolding square_in square_at whole_face
down_none f d o h eo =
    let e : d * 256 ^ 0 / 2 ^ 64 ≡ 0 = omega arith in
    record { at_rest = omega arith; at_square = refl; at_orientation = eo ∙ ap (λ x. x % 2) (let a : f ≡ f * 256 ^ 0 + d * 256 ^ 0 / 2 ^ 64 = omega arith in a) }

-- of the positions of d, those of the first groups
pub few_groups : (d g : ℕ) → d < 2 ^ 60 → 16 * (d * 256 ^ g / 2 ^ 64) < 256 ^ g
few_groups d g h = by d (256 ^ g) h (let e = bytes_pow g in let p = four_pos (4 * g) in omega arith)
  where
    by : (d p : ℕ) → d < 2 ^ 60 → 0 < p → 16 * (d * p / 2 ^ 64) < p
    by d p h pos = let m : d * p < 2 ^ 60 * p = grind arith in omega arith

pub down_orientation : (f d g rest square orientation : ℕ) → f < 6 → d < 2 ^ 60 → IsDown f d g rest square orientation → orientation < 4
down_orientation f d g rest square orientation hf hd h =
    let few = few_groups d g hd in
    let is = (square_in_is f g (d * 256 ^ g / 2 ^ 64) hf (omega arith)).orientation in
    let e = h.at_orientation in
    omega arith

pub record IsStepDown (f d g rest square e : ℕ) : Type 0 where
  pub fits : square * 2 ^ 4 % 2 ^ 64 + e < 2 ^ 64
  pub down : IsDown f d (g + 1) (rest * 2 ^ 8 % 2 ^ 64) (square * 2 ^ 4 % 2 ^ 64 + e) (e / 2 ^ 54 / 256)

packed_more : (square i j ti tj i' j' e : ℕ) → square % 2 ^ 62 ≡ i * 2 ^ 32 + j → i < 2 ^ 28 → j < 2 ^ 28 → e < 2 ^ 64
    → ti ≡ e % 2 ^ 62 / 2 ^ 32 → tj ≡ e % 2 ^ 32 → i' ≡ 16 * i + ti → j' ≡ 16 * j + tj → i' < 2 ^ 30 → j' < 2 ^ 30
    → (square * 2 ^ 4 % 2 ^ 64 + e < 2 ^ 64) × ((square * 2 ^ 4 % 2 ^ 64 + e) % 2 ^ 62 ≡ i' * 2 ^ 32 + j')
packed_more square i j ti tj i' j' e is hi hj he ei ej ei' ej' hi' hj' =
    let low : square * 2 ^ 4 % 2 ^ 64 ≡ 16 * (i * 2 ^ 32 + j) = omega arith in
    let whole : e ≡ e / 2 ^ 62 * 2 ^ 62 + ti * 2 ^ 32 + tj = omega arith in
    let sum : square * 2 ^ 4 % 2 ^ 64 + e ≡ e / 2 ^ 62 * 2 ^ 62 + (i' * 2 ^ 32 + j') = omega arith in
    (omega arith, omega arith)

rest_more : (d p rest : ℕ) → rest ≡ d * p % 2 ^ 64
    → (rest * 2 ^ 8 % 2 ^ 64 ≡ d * (256 * p) % 2 ^ 64) × (d * p / 2 ^ 64 * 256 + rest / 2 ^ 56 ≡ d * (256 * p) / 2 ^ 64)
rest_more d p rest h =
    let e : d * (256 * p) ≡ 256 * (d * p) = omega arith in
    (omega arith, omega arith)

pub down_more : (f d g rest square orientation e : ℕ) → f < 6 → d < 2 ^ 60 → g < 8 → e < 2 ^ 64 → IsDown f d g rest square orientation
    → IsSquareEntry orientation (rest / 2 ^ 56) e → IsStepDown f d g rest square e
down_more f d g rest square orientation e hf hd hg he h entry =
    let p = 256 ^ g in
    let c = d * p / 2 ^ 64 in
    let b = rest / 2 ^ 56 in
    let p' : 256 ^ (g + 1) ≡ 256 * p = ap (λ x. 256 ^ x) (let s : g + 1 ≡ suc g = omega arith in s) ∙ bytes_step g in
    let more = rest_more d p rest h.at_rest in
    let next : d * 256 ^ (g + 1) / 2 ^ 64 ≡ c * 256 + b = ap (λ x. d * x / 2 ^ 64) p' ∙ sym more.1 in
    let few = few_groups d g hd in
    let few' = few_groups d (g + 1) hd in
    let s = square_in f g c in
    let t = square_in f (g + 1) (c * 256 + b) in
    let is = square_in_is f g c hf (omega arith) in
    let up = square_in_more f g c b entry.steps.below in
    let narrow = square_in_narrow f g (c * 256 + b) hf hg (omega arith) in
    let most : 2 ^ (4 * g) ≤ 2 ^ 28 = pow-le-pow_right {n = 2} (omega arith) {i = 4 * g} {j = 28} (omega arith) in
    let i = is.i in
    let j = is.j in
    let turn : four_levels s.orientation b ≡ four_levels orientation b = ap (λ o. four_levels o b) (sym h.at_orientation) in
    let both = packed_more square s.i s.j (four_levels s.orientation b).i (four_levels s.orientation b).j t.i t.j e h.at_square (omega arith) (omega arith) he (ap (λ (x : FaceIj). x.i) turn ∙ entry.steps.at_i) (ap (λ (x : FaceIj). x.j) turn ∙ entry.steps.at_j) up.at_i up.at_j narrow.0 narrow.1 in
    record {
      fits = both.0;
      down = record {
        at_rest = more.0 ∙ ap (λ x. d * x % 2 ^ 64) (sym p');
        at_square = both.1 ∙ ap (λ x. (square_in f (g + 1) x).i * 2 ^ 32 + (square_in f (g + 1) x).j) (sym next);
        at_orientation = row_of_entry e ∙ sym entry.steps.at_orientation ∙ ap (λ (x : FaceIj). x.orientation) (sym turn) ∙ sym up.at_orientation ∙ ap (λ x. (square_in f (g + 1) x).orientation) (sym next);
      };
    }

-- the square of the leaf, as the code takes it from the number
pub record IsLeafSquare (place i j orientation : ℕ) : Type 0 where
  pub at_i : (square_at 30 place).i ≡ i
  pub at_j : (square_at 30 place).j ≡ j
  pub at_orientation : (square_at 30 place).orientation ≡ orientation

pub down_all : (place rest square orientation : ℕ) → place < 6 * 2 ^ 60 → IsDown (place / 2 ^ 60) (place % 2 ^ 60) 8 rest square orientation
    → IsLeafSquare place (square % 2 ^ 62 / 2 ^ 32) (square % 2 ^ 32) orientation
down_all place rest square orientation hp h =
    let f = place / 2 ^ 60 in
    let d = place % 2 ^ 60 in
    let all : d * 256 ^ 8 / 2 ^ 64 ≡ d = omega arith in
    let is = square_in_narrow f 7 d (omega arith) (omega arith) (omega arith) in
    let whole : f * 2 ^ 60 + d ≡ place = omega arith in
    let alike : AreAlike (square_in f 8 d) (square_at 30 place) = subst (λ x. AreAlike (square_in f 8 d) (square_at 30 x)) whole (leaf_in f d (omega arith)) in
    let sq : square % 2 ^ 62 ≡ (square_in f 8 d).i * 2 ^ 32 + (square_in f 8 d).j = h.at_square ∙ ap (λ x. (square_in f 8 x).i * 2 ^ 32 + (square_in f 8 x).j) all in
    let at_i : (square_in f 8 d).i ≡ square % 2 ^ 62 / 2 ^ 32 = omega arith in
    let at_j : (square_in f 8 d).j ≡ square % 2 ^ 32 = omega arith in
    record {
      at_i = sym alike.i ∙ at_i;
      at_j = sym alike.j ∙ at_j;
      at_orientation = sym alike.orientation ∙ ap (λ x. (square_in f 8 x).orientation) (sym all) ∙ sym h.at_orientation;
    }

-- ---- up, by the squares

-- the positions of the first groups are known from the highest bits of i and j
pub record IsUp (f i j g places orientation : ℕ) : Type 0 where
  pub few : 16 * (places % 2 ^ 62) < 256 ^ g
  pub at_i : (square_in f g (places % 2 ^ 62)).i ≡ i / 2 ^ (32 - 4 * g)
  pub at_j : (square_in f g (places % 2 ^ 62)).j ≡ j / 2 ^ (32 - 4 * g)
  pub at_orientation : orientation ≡ (square_in f g (places % 2 ^ 62)).orientation

pub up_none : (f i j : ℕ) → i < 2 ^ 30 → j < 2 ^ 30 → IsUp f i j 0 0 (f % 2)
unfolding square_in square_at whole_face
up_none f i j hi hj = record { few = omega arith; at_i = omega arith; at_j = omega arith; at_orientation = ap (λ x. x % 2) (let a : f ≡ f * 256 ^ 0 + 0 % 2 ^ 62 = omega arith in a) }

pub up_orientation : (f i j g places orientation : ℕ) → f < 6 → IsUp f i j g places orientation → orientation < 4
up_orientation f i j g places orientation hf h =
    let few = h.few in
    let is = (square_in_is f g (places % 2 ^ 62) hf (omega arith)).orientation in
    let e = h.at_orientation in
    omega arith

-- four bits more of a coordinate
bits_more : (x g si ti t : ℕ) → g < 8 → si ≡ x / 2 ^ (32 - 4 * g) → ti ≡ 16 * si + t → t ≡ x / 2 ^ (28 - 4 * g) % 16
    → ti ≡ x / 2 ^ (32 - 4 * (g + 1))
bits_more x g si ti t hg es et eb =
    let e1 : 32 - 4 * g ≡ 28 - 4 * g + 4 = omega arith in
    let e2 : 32 - 4 * (g + 1) ≡ 28 - 4 * g = omega arith in
    let halves : x / 2 ^ (28 - 4 * g) / 2 ^ 4 ≡ x / 2 ^ (28 - 4 * g + 4) = shr-shr x (28 - 4 * g) 4 in
    let x1 : x / 2 ^ (32 - 4 * g) ≡ x / 2 ^ (28 - 4 * g + 4) = ap (λ y. x / 2 ^ y) e1 in
    let x2 : x / 2 ^ (32 - 4 * (g + 1)) ≡ x / 2 ^ (28 - 4 * g) = ap (λ y. x / 2 ^ y) e2 in
    omega arith

first_small : (x : ℕ) → x < 2 ^ 30 → x / 2 ^ 28 % 16 < 4
first_small x h = omega arith

-- the first group has two positions alone
few_more : (f i j g d orientation e b : ℕ) → f < 6 → i < 2 ^ 30 → j < 2 ^ 30 → (g ≡ 0 → orientation < 2) → 16 * d < 256 ^ g
    → b ≡ 16 * (i / 2 ^ (28 - 4 * g) % 16) + j / 2 ^ (28 - 4 * g) % 16 → IsPlaceEntry orientation b e
    → 16 * (d * 256 + e % 2 ^ 62) < 256 ^ (g + 1)
few_more f i j zero d orientation e b hf hi hj ho few eb entry =
    let a = first_small i hi in
    let c = first_small j hj in
    let corner = entry.corner (ho refl) (omega arith) (omega arith) in
    omega arith
few_more f i j (suc g) d orientation e b hf hi hj ho few eb entry =
    let s1 = bytes_step g in
    let s2 = bytes_step (suc g) in
    let e2 : 256 ^ (suc g + 1) ≡ 256 ^ suc (suc g) = ap (λ x. 256 ^ x) (omega arith) in
    let below = entry.steps.below in
    omega arith

start_orientation : (f i j g places orientation : ℕ) → IsUp f i j g places orientation → g ≡ 0 → orientation < 2
unfolding square_in square_at whole_face
start_orientation f i j zero places orientation h _ = let e = h.at_orientation in omega arith
start_orientation f i j (suc g) places orientation h e = absurd (omega arith)

-- one group more: the positions of the entry after those of the groups before
pub up_more : (f i j g places orientation e b next : ℕ) → f < 6 → i < 2 ^ 30 → j < 2 ^ 30 → g < 8 → IsUp f i j g places orientation
    → b ≡ 16 * (i / 2 ^ (28 - 4 * g) % 16) + j / 2 ^ (28 - 4 * g) % 16 → IsPlaceEntry orientation b e
    → next % 2 ^ 62 ≡ places % 2 ^ 62 * 256 + e % 2 ^ 62 → IsUp f i j (g + 1) next (e / 2 ^ 62)
up_more f i j g places orientation e b next hf hi hj hg h eb entry en =
    let d = places % 2 ^ 62 in
    let d' = d * 256 + e % 2 ^ 62 in
    let few = few_more f i j g d orientation e b hf hi hj (start_orientation f i j g places orientation h) h.few eb entry in
    let s = square_in f g d in
    let up = square_in_more f g d (e % 2 ^ 62) entry.steps.below in
    let turn : four_levels s.orientation (e % 2 ^ 62) ≡ four_levels orientation (e % 2 ^ 62) = ap (λ o. four_levels o (e % 2 ^ 62)) (sym h.at_orientation) in
    let column : b / 16 ≡ i / 2 ^ (28 - 4 * g) % 16 = omega arith in
    let row : b % 16 ≡ j / 2 ^ (28 - 4 * g) % 16 = omega arith in
    record {
      few = subst (λ x. 16 * x < 256 ^ (g + 1)) (sym en) few;
      at_i = ap (λ x. (square_in f (g + 1) x).i) en ∙ bits_more i g s.i _ (four_levels s.orientation (e % 2 ^ 62)).i hg h.at_i up.at_i (ap (λ (x : FaceIj). x.i) turn ∙ entry.steps.at_i ∙ column);
      at_j = ap (λ x. (square_in f (g + 1) x).j) en ∙ bits_more j g s.j _ (four_levels s.orientation (e % 2 ^ 62)).j hg h.at_j up.at_j (ap (λ (x : FaceIj). x.j) turn ∙ entry.steps.at_j ∙ row);
      at_orientation = sym entry.steps.at_orientation ∙ ap (λ (x : FaceIj). x.orientation) (sym turn) ∙ sym up.at_orientation ∙ ap (λ x. (square_in f (g + 1) x).orientation) (sym en);
    }

pub record IsLeafPlace (f i j place : ℕ) : Type 0 where
  pub below : place < 6 * 4 ^ 30
  pub at_face : (square_at 30 place).face ≡ f
  pub at_i : (square_at 30 place).i ≡ i
  pub at_j : (square_at 30 place).j ≡ j

pub up_all : (f i j places orientation place : ℕ) → f < 6 → IsUp f i j 8 places orientation → place ≡ f * 2 ^ 60 + places % 2 ^ 62
    → IsLeafPlace f i j place
up_all f i j places orientation place hf h ep =
    let d = places % 2 ^ 62 in
    let few = h.few in
    let small : d < 2 ^ 60 = omega arith in
    let alike : AreAlike (square_in f 8 d) (square_at 30 place) = subst (λ x. AreAlike (square_in f 8 d) (square_at 30 x)) (sym ep) (leaf_in f d small) in
    record {
      below = omega arith;
      at_face = face-square_at 30 place ∙ (let q : place / 4 ^ 30 ≡ f = omega arith in q);
      at_i = sym alike.i ∙ h.at_i ∙ (let e : i / 2 ^ (32 - 4 * 8) ≡ i = omega arith in e);
      at_j = sym alike.j ∙ h.at_j ∙ (let e : j / 2 ^ (32 - 4 * 8) ≡ j = omega arith in e);
    }

-- ---- two groups at a time

pub record IsPairUp (f i j odd0 even0 pair places orientation odd even : ℕ) : Type 0 where
  pub up : IsUp f i j (2 * pair) places orientation
  pub at_odd : odd ≡ odd0 * 256 ^ pair % 2 ^ 32
  pub at_even : even ≡ even0 * 256 ^ pair % 2 ^ 32

pub pair_none : (f i j odd0 even0 o : ℕ) → i < 2 ^ 30 → j < 2 ^ 30 → odd0 < 2 ^ 32 → even0 < 2 ^ 32 → o ≡ f % 2
    → IsPairUp f i j odd0 even0 0 0 o odd0 even0
pair_none f i j odd0 even0 o hi hj ho he eo = record { up = subst (IsUp f i j 0 0) (sym eo) (up_none f i j hi hj); at_odd = omega arith; at_even = omega arith }

pub record IsPairMore (f i j odd0 even0 pair places odd even upper lower : ℕ) : Type 0 where
  pub fits_upper : places * 2 ^ 16 % 2 ^ 64 + upper * 2 ^ 8 % 2 ^ 64 < 2 ^ 64
  pub fits : places * 2 ^ 16 % 2 ^ 64 + upper * 2 ^ 8 % 2 ^ 64 + lower < 2 ^ 64
  pub more : IsPairUp f i j odd0 even0 (pair + 1) (places * 2 ^ 16 % 2 ^ 64 + upper * 2 ^ 8 % 2 ^ 64 + lower) (lower / 2 ^ 54 / 256) (odd * 2 ^ 8 % 2 ^ 32) (even * 2 ^ 8 % 2 ^ 32)

next_byte : (w w0 p : ℕ) → w ≡ w0 * 256 ^ p % 2 ^ 32 → w * 2 ^ 8 % 2 ^ 32 ≡ w0 * 256 ^ (p + 1) % 2 ^ 32
next_byte w w0 p e =
    let step : 256 ^ (p + 1) ≡ 256 * 256 ^ p = ap (λ x. 256 ^ x) (let s : p + 1 ≡ suc p = omega arith in s) ∙ bytes_step p in
    let turn : w0 * 256 ^ (p + 1) ≡ 256 * (w0 * 256 ^ p) = ap (λ x. w0 * x) step ∙ swap w0 (256 ^ p) in
    omega arith
  where
    swap : (a b : ℕ) → a * (256 * b) ≡ 256 * (a * b)
    swap a b = omega arith

two_more : (places upper lower d u l : ℕ) → d ≡ places % 2 ^ 62 → d < 2 ^ 44 → u ≡ upper % 2 ^ 62 → u < 256 → l ≡ lower % 2 ^ 62 → l < 256
    → lower < 2 ^ 64
    → (places * 2 ^ 16 % 2 ^ 64 + upper * 2 ^ 8 % 2 ^ 64 < 2 ^ 64) × (places * 2 ^ 16 % 2 ^ 64 + upper * 2 ^ 8 % 2 ^ 64 + lower < 2 ^ 64) × ((places * 2 ^ 16 % 2 ^ 64 + upper * 2 ^ 8 % 2 ^ 64 + lower) % 2 ^ 62 ≡ (d * 256 + u) * 256 + l)
two_more places upper lower d u l ed hd eu hu el hl h =
    let a : places * 2 ^ 16 % 2 ^ 64 ≡ d * 2 ^ 16 = omega arith in
    let b : upper * 2 ^ 8 % 2 ^ 64 ≡ u * 2 ^ 8 = omega arith in
    let c : lower ≡ lower / 2 ^ 62 * 2 ^ 62 + l = omega arith in
    (omega arith, omega arith, omega arith)

pub pair_more : (f i j odd0 even0 pair places orientation odd even upper lower : ℕ) → f < 6 → i < 2 ^ 30 → j < 2 ^ 30 → pair < 4
    → lower < 2 ^ 64 → AreWoven i j odd0 even0 → IsPairUp f i j odd0 even0 pair places orientation odd even
    → IsPlaceEntry orientation (odd / 2 ^ 24) upper → IsPlaceEntry (upper / 2 ^ 54 / 256) (even / 2 ^ 24) lower
    → IsPairMore f i j odd0 even0 pair places odd even upper lower
pair_more f i j odd0 even0 pair places orientation odd even upper lower hf hi hj hp hl woven h first second =
    let g = 2 * pair in
    let d = places % 2 ^ 62 in
    let u = upper % 2 ^ 62 in
    let l = lower % 2 ^ 62 in
    let few = h.up.few in
    let most : 256 ^ g ≤ 256 ^ 6 = pow-le-pow_right {n = 256} (omega arith) {i = g} {j = 6} (omega arith) in
    let small : d < 2 ^ 44 = omega arith in
    let two = two_more places upper lower d u l refl small refl first.steps.below refl second.steps.below hl in
    let sum = places * 2 ^ 16 % 2 ^ 64 + upper * 2 ^ 8 % 2 ^ 64 + lower in
    let Bits : ℕ → ℕ → Type 0 = λ b n. b ≡ 16 * (i / 2 ^ n % 16) + j / 2 ^ n % 16 in
    let b1 : Bits (odd / 2 ^ 24) (28 - 4 * g) = subst (Bits (odd / 2 ^ 24)) (let e : 28 - 8 * pair ≡ 28 - 4 * g = omega arith in e) (ap (λ x. x / 2 ^ 24) h.at_odd ∙ woven.at_upper pair hp) in
    let b2 : Bits (even / 2 ^ 24) (28 - 4 * (g + 1)) = subst (Bits (even / 2 ^ 24)) (let e : 24 - 8 * pair ≡ 28 - 4 * (g + 1) = omega arith in e) (ap (λ x. x / 2 ^ 24) h.at_even ∙ woven.at_lower pair hp) in
    let mid = d * 256 + u in
    let bu = first.steps.below in
    let mid_is : mid % 2 ^ 62 ≡ mid = omega arith in
    let one = up_more f i j g places orientation upper (odd / 2 ^ 24) mid hf hi hj (omega arith) h.up b1 first mid_is in
    let both = up_more f i j (g + 1) mid (upper / 2 ^ 62) lower (even / 2 ^ 24) sum hf hi hj (omega arith) one b2 (subst (λ o. IsPlaceEntry o (even / 2 ^ 24) lower) (row_of_entry upper) second) (two.2 ∙ ap (λ x. x * 256 + l) (sym mid_is)) in
    record {
      fits_upper = two.0;
      fits = two.1;
      more = record {
        up = subst (λ o. IsUp f i j (2 * (pair + 1)) sum o) (sym (row_of_entry lower)) (subst (λ n. IsUp f i j n sum (lower / 2 ^ 62)) (let e : g + 1 + 1 ≡ 2 * (pair + 1) = omega arith in e) both);
        at_odd = next_byte odd odd0 pair h.at_odd;
        at_even = next_byte even even0 pair h.at_even;
      };
    }

pub pair_orientation : (f i j odd0 even0 pair places orientation odd even : ℕ) → f < 6
    → IsPairUp f i j odd0 even0 pair places orientation odd even → orientation < 4
pair_orientation f i j odd0 even0 pair places orientation odd even hf h = up_orientation f i j (2 * pair) places orientation hf h.up

pub pairs_all : (f i j odd0 even0 pair places orientation odd even place : ℕ) → f < 6 → pair ≡ 4 → place ≡ f * 2 ^ 60 + places % 2 ^ 62
    → IsPairUp f i j odd0 even0 pair places orientation odd even → IsLeafPlace f i j place
pairs_all f i j odd0 even0 pair places orientation odd even place hf e ep h =
    up_all f i j places orientation place hf (subst (λ n. IsUp f i j n places orientation) (let a : 2 * pair ≡ 8 = omega arith in a) h.up) ep

-- the square of a leaf as the code writes it
pub leaf_written : (place rest square orientation group : ℕ) → place < 6 * 2 ^ 60 → square < 2 ^ 64 → group ≡ 8
    → IsDown (place / 2 ^ 60) (place % 2 ^ 60) group rest square orientation → (s : FaceIj)
    → s ≡ record { face = place / 2 ^ 60; i = square / 2 ^ 32 % 2 ^ 30; j = square % 2 ^ 32; level = 30; orientation = orientation }
    → s ≡ square_at 30 place
leaf_written place rest square orientation group hp hs hg h s es =
    let a = down_all place rest square orientation hp (subst (λ n. IsDown (place / 2 ^ 60) (place % 2 ^ 60) n rest square orientation) hg h) in
    let t = square_at 30 place in
    let is = IsSquare-square_at 30 place (omega arith) in
    let face : place / 2 ^ 60 ≡ t.face = sym (face-square_at 30 place) in
    let column : square / 2 ^ 32 % 2 ^ 30 ≡ t.i = (let e : square / 2 ^ 32 % 2 ^ 30 ≡ square % 2 ^ 62 / 2 ^ 32 = omega arith in e) ∙ sym a.at_i in
    let same : record { face = place / 2 ^ 60; i = square / 2 ^ 32 % 2 ^ 30; j = square % 2 ^ 32; level = 30; orientation = orientation } ≡ t = λ k. record { face = face k; i = column k; j = sym a.at_j k; level = sym is.level k; orientation = sym a.at_orientation k } in
    es ∙ same
