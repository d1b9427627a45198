-- The number of the next cell of a level.
use Rattle.std.proofs.Common.{◌≡◌, ℕ, ◌+◌, ◌-◌, ◌*◌, ◌%◌, ◌^◌, ◌<◌, ◌≤◌, inl, inr, length, sym, ◌∙◌, ap, ap₂, arith}
use Rattle.std.proofs.Math.Nat.{mod_self, mod-eq_of_lt, mod-lt}
use Rattle.std.proofs.lemmas.Bool.{cases_lt}
use Rattle.s2id_core.specs.Cell.{IsCellNumber}
use Rattle.s2id_core.specs.Path.{place_of, path_at}
use Rattle.s2id_core.proofs.Bits.{number_form}
use Rattle.s2id_core.proofs.Numbers.{path_of_cell, place_below}
use Rattle.s2id_core.proofs.Powers.{four_pos, four_split, odd_below}

-- one place further, on a curve of 6 * a places, each b wide
step : (m b : ℕ) → (2 * m + 1) * b + 2 * b ≡ (2 * (m + 1) + 1) * b
step m b = omega arith

pub stays : (a b m : ℕ) → m < 6 * a → 0 < b → (2 * m + 1) * b + 2 * b < 12 * (a * b)
    → (2 * m + 1) * b + 2 * b ≡ (2 * ((m + 1) % (6 * a)) + 1) * b
stays a b m below pos less =
    elim (cases_lt (m + 1) (6 * a)) [
      | inl lt ↦ step m b ∙ ap (λ x. (2 * x + 1) * b) (sym (mod-eq_of_lt lt))
      | inr le ↦ let last : m + 1 ≡ 6 * a = omega arith in
          let end : (2 * (m + 1) + 1) * b ≡ 12 * (a * b) + b = ap (λ x. (2 * x + 1) * b) last ∙ turn a b in
          absurd (omega (arith, step m b, end, less, pos))
    ]
  where
    turn : (a b : ℕ) → (2 * (6 * a) + 1) * b ≡ 12 * (a * b) + b
    turn a b = omega arith

pub wraps : (a b m : ℕ) → m < 6 * a → 0 < b → 12 * (a * b) ≤ (2 * m + 1) * b + 2 * b
    → (2 * m + 1) * b + 2 * b - 12 * (a * b) ≡ (2 * ((m + 1) % (6 * a)) + 1) * b
wraps a b m below pos over =
    elim (cases_lt (m + 1) (6 * a)) [
      | inl lt ↦ absurd (omega (arith, step m b, odd_below (m + 1) a b lt pos, over))
      | inr le ↦ let last : m + 1 ≡ 6 * a = omega arith in
          let end : (2 * (m + 1) + 1) * b ≡ 12 * (a * b) + b = ap (λ x. (2 * x + 1) * b) last ∙ turn a b in
          let first : (m + 1) % (6 * a) ≡ 0 = ap (λ x. x % (6 * a)) last ∙ mod_self (6 * a) in
          let left : (2 * m + 1) * b + 2 * b - 12 * (a * b) ≡ b = omega (arith, step m b, end) in
          let one : b ≡ (2 * 0 + 1) * b = omega arith in
          left ∙ one ∙ ap (λ x. (2 * x + 1) * b) (sym first)
    ]
  where
    turn : (a b : ℕ) → (2 * (6 * a) + 1) * b ≡ 12 * (a * b) + b
    turn a b = omega arith

-- the number of the next cell of its level is that of the place after its own, where the first of face 0 stands after the last of face 5
abbrev pub next_form : ℕ → ℕ
next_form n =
    (2 * ((place_of (path_at n) + 1) % (6 * 4 ^ length (path_at n).digits)) + 1) * 4 ^ (30 - length (path_at n).digits)

pub next_stays : (n lowest : ℕ) → IsCellNumber n → lowest ≡ 4 ^ (30 - length (path_at n).digits) → n + 2 * lowest < 6 * 2 ^ 61
    → n + 2 * lowest ≡ next_form n
next_stays n lowest cell low less =
    let k = length (path_at n).digits in
    let path = path_of_cell n cell in
    let moved : n + 2 * lowest ≡ (2 * place_of (path_at n) + 1) * 4 ^ (30 - k) + 2 * 4 ^ (30 - k) = ap₂ (λ x y. x + 2 * y) (number_form n cell) low in
    let split = four_split 30 k path.at_most in
    moved ∙ stays (4 ^ k) (4 ^ (30 - k)) (place_of (path_at n)) (place_below (path_at n) path) (four_pos (30 - k)) (omega (arith, moved, split, less))

pub next_wraps : (n lowest : ℕ) → IsCellNumber n → lowest ≡ 4 ^ (30 - length (path_at n).digits) → 6 * 2 ^ 61 ≤ n + 2 * lowest
    → n + 2 * lowest - 6 * 2 ^ 61 ≡ next_form n
next_wraps n lowest cell low over =
    let k = length (path_at n).digits in
    let path = path_of_cell n cell in
    let moved : n + 2 * lowest ≡ (2 * place_of (path_at n) + 1) * 4 ^ (30 - k) + 2 * 4 ^ (30 - k) = ap₂ (λ x y. x + 2 * y) (number_form n cell) low in
    let split = four_split 30 k path.at_most in
    let whole : 6 * 2 ^ 61 ≡ 12 * (4 ^ k * 4 ^ (30 - k)) = omega (arith, split) in
    ap₂ (λ x y. x - y) moved whole ∙ wraps (4 ^ k) (4 ^ (30 - k)) (place_of (path_at n)) (place_below (path_at n) path) (four_pos (30 - k)) (omega (arith, moved, whole, over))

-- the place after a cell's own is one of its level
pub next_below : (n : ℕ) → IsCellNumber n
    → (place_of (path_at n) + 1) % (6 * 4 ^ length (path_at n).digits) < 6 * 4 ^ length (path_at n).digits
next_below n cell = let pos = four_pos (length (path_at n).digits) in mod-lt (place_of (path_at n) + 1) (omega arith)
