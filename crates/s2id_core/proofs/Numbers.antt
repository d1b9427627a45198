-- Cell numbers: exactly the numbers of paths, and how the code tells them.
use Rattle.std.proofs.Common.{◌≡◌, ℕ, zero, suc, ◌+◌, ◌-◌, ◌*◌, ◌/◌, ◌%◌, ◌^◌, ◌<◌, ◌≤◌, length, sym, ◌∙◌, ap, ap₂, arith}
use Rattle.std.specs.Int.{w64, trailing_zeros}
use Rattle.std.specs.Int.Count.{trailing_of_zero}
use Rattle.std.proofs.lemmas.Nat.{div-mul-add, shr-shr, div-add-mod'}
use Rattle.s2id_core.specs.Path.{Path, IsPath, number_of, base_four, place_of, last_digits, level_at, path_at}
use Rattle.s2id_core.specs.Cell.{IsCellNumber}
use Rattle.s2id_core.proofs.Powers.{four_pow, four_pow_odd, four_pos, four_split, odd_below}
use Rattle.s2id_core.proofs.Zeros.{zeros_of, odd_part}
use Rattle.s2id_core.proofs.Places.{number_by_place, length-last_digits, last_digits_below, base_four-last_digits, base_four_below, last_digits-base_four}

-- ---- a number by its zeros: place m at level 30 - h, where n ≡ (2 * m + 1) * 4 ^ h

pub zeros_by_place : (m h n : ℕ) → h ≤ 30 → n ≡ (2 * m + 1) * 4 ^ h → trailing_zeros w64 n ≡ 2 * h
zeros_by_place m h n le e = zeros_of 64 (2 * h) m n (omega arith) (e ∙ ap (λ x. (2 * m + 1) * x) (sym (four_pow h)))

pub level_by_place : (m h n : ℕ) → h ≤ 30 → n ≡ (2 * m + 1) * 4 ^ h → level_at n ≡ 30 - h
unfolding level_at
level_by_place m h n le e = let z = zeros_by_place m h n le e in omega arith

-- the bits above the lowest 1
pub place_by_place : (m h n : ℕ) → n ≡ (2 * m + 1) * 4 ^ h → n / 2 ^ (2 * h + 1) ≡ m
place_by_place m h n e =
    let pos = four_pos h in
    ap₂ (λ x y. x / y) (e ∙ regroup m (4 ^ h)) (four_pow_odd h) ∙ div-mul-add m (2 * 4 ^ h) (4 ^ h) (omega arith)
  where
    regroup : (m b : ℕ) → (2 * m + 1) * b ≡ m * (2 * b) + b
    regroup m b = omega arith

-- ---- the path read from such a number

-- the path of place m at level k
abbrev pub path_of_place : ℕ → ℕ → Path
path_of_place k m = record { face = m / 4 ^ k; digits = last_digits k m }

pub path_by_place : (m h n : ℕ) → h ≤ 30 → n ≡ (2 * m + 1) * 4 ^ h → path_at n ≡ path_of_place (30 - h) m
unfolding path_at
path_by_place m h n le e =
    let level = level_by_place m h n le e in
    let place : n / 2 ^ (61 - 2 * level_at n) ≡ m = ap (λ x. n / 2 ^ x) (let e : 61 - 2 * level_at n ≡ 2 * h + 1 = omega arith in e) ∙ place_by_place m h n e in
    let face : n / 2 ^ 61 ≡ m / 4 ^ (30 - h) = ap (λ x. n / 2 ^ x) (let e : 61 ≡ 2 * h + 1 + 2 * (30 - h) = omega arith in e) ∙ sym (shr-shr n (2 * h + 1) (2 * (30 - h))) ∙ ap₂ (λ x y. x / y) (place_by_place m h n e) (four_pow (30 - h)) in
    ap₂ (λ x ds. let p : Path = record { face = x; digits = ds } in p) face (ap₂ last_digits level place)

pub place_of-path_of_place : (k m : ℕ) → place_of (path_of_place k m) ≡ m
unfolding place_of
place_of-path_of_place k m =
    ap₂ (λ x y. m / 4 ^ k * 4 ^ x + y) (length-last_digits k m) (base_four-last_digits k m) ∙ div-add-mod' m (4 ^ k)

pub number-path_at : (m h n : ℕ) → h ≤ 30 → n ≡ (2 * m + 1) * 4 ^ h → number_of (path_at n) ≡ n
number-path_at m h n le e =
    let k = 30 - h in
    let p = path_of_place k m in
    let long : length p.digits ≡ k = length-last_digits k m in
    let rest : 30 - length p.digits ≡ h = omega arith in
    ap number_of (path_by_place m h n le e) ∙ number_by_place p (omega arith) ∙ ap₂ (λ x y. (2 * x + 1) * 4 ^ y) (place_of-path_of_place k m) rest ∙ sym e

-- ---- which numbers are those of the paths that are read from them: an even count of zeros, at most 60

pub level_at-le : (n : ℕ) → level_at n ≤ 30
unfolding level_at
level_at-le n = omega arith

length-path_at : (n : ℕ) → length (path_at n).digits ≡ level_at n
unfolding path_at
length-path_at n = length-last_digits (level_at n) (n / 2 ^ (61 - 2 * level_at n))

pub zeros_from_valid : (n : ℕ) → number_of (path_at n) ≡ n → (trailing_zeros w64 n % 2 ≡ 0) × (trailing_zeros w64 n ≤ 60)
zeros_from_valid n e =
    let k = level_at-le n in
    let l = length-path_at n in
    let by_place = number_by_place (path_at n) (omega arith) in
    let h = 30 - length (path_at n).digits in
    let z = zeros_by_place (place_of (path_at n)) h n (omega arith) (sym e ∙ by_place) in
    (omega arith, omega arith)

pub valid_from_zeros : (n : ℕ) → 0 < n → n < 2 ^ 64 → trailing_zeros w64 n % 2 ≡ 0 → trailing_zeros w64 n ≤ 60 → number_of (path_at n) ≡ n
valid_from_zeros n pos below even small =
    let odd = odd_part 64 n pos below in
    let t = trailing_zeros w64 n in
    let h = t / 2 in
    let same : 2 * h ≡ t = omega arith in
    number-path_at odd.half h n (omega arith) (odd.is ∙ ap (λ x. (2 * odd.half + 1) * 2 ^ x) (sym same) ∙ ap (λ x. (2 * odd.half + 1) * x) (four_pow h))

-- ---- each path's number is a cell's, and the path is read back from it

pub place_below : (p : Path) → IsPath p → place_of p < 6 * 4 ^ length p.digits
unfolding place_of
place_below p h = row p.face (base_four p.digits) (4 ^ length p.digits) h.face_below (base_four_below p.digits h.digits_below)
  where
    row : (f v b : ℕ) → f < 6 → v < b → f * b + v < 6 * b
    row f v b hf hv = grind arith

pub number_below : (p : Path) → IsPath p → number_of p < 6 * 2 ^ 61
number_below p h =
    let b = 4 ^ (30 - length p.digits) in
    let at = number_by_place p h.at_most in
    let pos = four_pos (30 - length p.digits) in
    let split = four_split 30 (length p.digits) h.at_most in
    let below = odd_below (place_of p) (4 ^ length p.digits) b (place_below p h) pos in
    omega arith

pub number_above : (p : Path) → 0 < number_of p
unfolding number_of
number_above p = let pos = four_pos (30 - length p.digits) in omega arith

pub path_of_place-place_of : (p : Path) → IsPath p → path_of_place (length p.digits) (place_of p) ≡ p
unfolding place_of
path_of_place-place_of p h =
    let b = 4 ^ length p.digits in
    ap₂ (λ x ds. let p : Path = record { face = x; digits = ds } in p) (div-mul-add p.face b (base_four p.digits) (base_four_below p.digits h.digits_below)) (last_digits-base_four p.digits p.face h.digits_below)

pub path_at-number : (p : Path) → IsPath p → path_at (number_of p) ≡ p
path_at-number p h =
    let k = length p.digits in
    let at_most = h.at_most in
    let read = path_by_place (place_of p) (30 - k) (number_of p) (omega arith) (number_by_place p h.at_most) in
    let level : 30 - (30 - k) ≡ k = omega arith in
    read ∙ ap (λ x. path_of_place x (place_of p)) level ∙ path_of_place-place_of p h

-- ---- how the code tells a cell's number

pub cell_from_zeros : (n : ℕ) → n / 2 ^ 61 < 6 → trailing_zeros w64 n ≤ 60 → trailing_zeros w64 n % 2 ≡ 0 → IsCellNumber n
cell_from_zeros zero face small even = absurd (let none = trailing_of_zero 64 in omega arith)
cell_from_zeros (suc n) face small even =
    (omega arith, omega arith, valid_from_zeros (suc n) (omega arith) (omega arith) even small)

pub zeros_from_cell : (n : ℕ) → IsCellNumber n → (n / 2 ^ 61 < 6) × (trailing_zeros w64 n ≤ 60) × (trailing_zeros w64 n % 2 ≡ 0)
zeros_from_cell n cell =
    let zeros = zeros_from_valid n cell.2 in (omega arith, zeros.1, zeros.0)

-- ---- cells and paths

pub path_of_cell : (n : ℕ) → IsCellNumber n → IsPath (path_at n)
unfolding path_at
path_of_cell n cell = record {
  face_below = omega arith;
  at_most = let l = length-last_digits (level_at n) (n / 2 ^ (61 - 2 * level_at n)) in let k = level_at-le n in omega arith;
  digits_below = last_digits_below (level_at n) (n / 2 ^ (61 - 2 * level_at n));
}

pub cell_of_path : (p : Path) → IsPath p → IsCellNumber (number_of p)
cell_of_path p h = (number_below p h, number_above p, ap number_of (path_at-number p h))
