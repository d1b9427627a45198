-- Numbers below three, four and six, one by one.
use Rattle.std.proofs.Common.{ℕ, zero, suc, ◌<◌, arith}

abbrev pub Four : (ℕ → Type 0) → Type 0
Four P = P 0 × P 1 × P 2 × P 3

pub three : (P : ℕ → Type 0) → P 0 × P 1 × P 2 → (n : ℕ) → n < 3 → P n
three P h zero _ = h.0
three P h (suc zero) _ = h.1
three P h (suc (suc zero)) _ = h.2
three P h (suc (suc (suc n))) lt = absurd (omega arith)

pub four : (P : ℕ → Type 0) → Four P → (n : ℕ) → n < 4 → P n
four P h zero _ = h.0
four P h (suc zero) _ = h.1
four P h (suc (suc zero)) _ = h.2
four P h (suc (suc (suc zero))) _ = h.3
four P h (suc (suc (suc (suc n)))) lt = absurd (omega arith)

pub six : (P : ℕ → Type 0) → P 0 × P 1 × P 2 × P 3 × P 4 × P 5 → (n : ℕ) → n < 6 → P n
six P h zero _ = h.0
six P h (suc zero) _ = h.1
six P h (suc (suc zero)) _ = h.2
six P h (suc (suc (suc zero))) _ = h.3
six P h (suc (suc (suc (suc zero)))) _ = h.4
six P h (suc (suc (suc (suc (suc zero))))) _ = h.5
six P h (suc (suc (suc (suc (suc (suc n)))))) lt = absurd (omega arith)

pub four_by_four : (P : ℕ → ℕ → Type 0) → Four (λ m. Four (P m)) → (m n : ℕ) → m < 4 → n < 4 → P m n
four_by_four P h m n hm hn = four (P m) (four (λ m. Four (P m)) h m hm) n hn
