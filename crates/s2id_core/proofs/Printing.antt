-- What `token` prints: sixteen digits, and how many of them are zeros at the end.
use Rattle.std.proofs.Common.{◌≡◌, ◌==◌, ℕ, zero, suc, ◌+◌, ◌-◌, ◌*◌, ◌/◌, ◌%◌, ◌^◌, ◌<◌, ◌≤◌, List, length, take, reverse, get_or, sym, ◌∙◌, ap, ap₂, arith, subst, true, false, bit_and, set, below_more, get_or-set_other, get_or-set_same, length-set, ◌≢◌}
use Rattle.std.specs.Char.{digit_char}
use Rattle.std.specs.List.{suffix_len}
use Rattle.std.specs.Int.{w64, trailing_zeros}
use Rattle.std.proofs.lemmas.Bool.Decides.{nat_tests}
use Rattle.std.proofs.lemmas.Nat.{pow-add, shl-shr, shr-shr, and_mask}
use Rattle.std.proofs.lemmas.List.{get_or-reverse, length-reverse}
use Rattle.std.proofs.lemmas.List.FromFn.{fill_by_all, get_or-map-range_with_len, length-map-range_with_len}
use Rattle.std.proofs.lemmas.List.Sums.{prefix_len_is}
use Rattle.s2id_core.specs.Token.{sixteen_digits, without_last_zeros, canonical_token}
use Rattle.s2id_core.proofs.Zeros.{odd_part}
use Rattle.s2id_core.proofs.Digits.{sixteen_pow}

-- ---- a hexadecimal digit of a number, by its zeros

-- n / 16 ^ k where t zeros stand at the end of n, and at least 4 * k
high_part : (m t k r n : ℕ) → n ≡ (2 * m + 1) * 2 ^ t → t ≡ r + 4 * k → n / 16 ^ k ≡ (2 * m + 1) * 2 ^ r
high_part m t k r n e s =
    ap₂ (λ x y. x / y) (e ∙ ap (λ x. (2 * m + 1) * 2 ^ x) s ∙ ap (λ x. (2 * m + 1) * x) (pow-add 2 r (4 * k)) ∙ regroup (2 * m + 1) (2 ^ r) (2 ^ (4 * k))) (sym (sixteen_pow k)) ∙ shl-shr ((2 * m + 1) * 2 ^ r) (4 * k)
  where
    regroup : (a b c : ℕ) → a * (b * c) ≡ a * b * c
    regroup a b c = omega arith

pub digit_zero : (m t k n : ℕ) → n ≡ (2 * m + 1) * 2 ^ t → 4 * k + 4 ≤ t → n / 16 ^ k % 16 ≡ 0
digit_zero m t k n e h =
    let r = t - 4 * k - 4 in
    let split : t ≡ (r + 4) + 4 * k = omega arith in
    ap (λ x. x % 16) (high_part m t k (r + 4) n e split ∙ ap (λ x. (2 * m + 1) * x) (pow-add 2 r 4)) ∙ whole (2 * m + 1) (2 ^ r)
  where
    whole : (a b : ℕ) → a * (b * 16) % 16 ≡ 0
    whole a b = let e : a * (b * 16) ≡ 16 * (a * b) = omega arith in omega arith

small_power : (m r : ℕ) → r < 4 → 0 < (2 * m + 1) * 2 ^ r % 16
small_power m zero h = omega arith
small_power m (suc zero) h = omega arith
small_power m (suc (suc zero)) h = omega arith
small_power m (suc (suc (suc zero))) h = omega arith
small_power m (suc (suc (suc (suc r)))) h = absurd (omega arith)

pub digit_not_zero : (m t k n : ℕ) → n ≡ (2 * m + 1) * 2 ^ t → 4 * k ≤ t → t < 4 * k + 4 → 0 < n / 16 ^ k % 16
digit_not_zero m t k n e low high =
    subst (λ x. 0 < x % 16) (sym (high_part m t k (t - 4 * k) n e (omega arith))) (small_power m (t - 4 * k) (omega arith))

-- ---- the sixteen digits

pub length-sixteen_digits : (n : ℕ) → length (sixteen_digits n) ≡ 16
unfolding sixteen_digits
length-sixteen_digits n = length-map-range_with_len (λ place. digit_char (n / 16 ^ (15 - place) % 16)) 0 16

pub sixteen_digits_at : (n place : ℕ) → place < 16 → get_or (sixteen_digits n) place 0 ≡ digit_char (n / 16 ^ (15 - place) % 16)
unfolding sixteen_digits
sixteen_digits_at n place h = get_or-map-range_with_len (λ place. digit_char (n / 16 ^ (15 - place) % 16)) 0 16 place place 0 h (omega arith)

pub sixteen_digits_by : (n : ℕ) (bytes : List ℕ) → length bytes ≡ 16
    → ((k : ℕ) → k < 16 → get_or bytes k 0 ≡ digit_char (n / 16 ^ (15 - k) % 16)) → bytes ≡ sixteen_digits n
unfolding sixteen_digits
sixteen_digits_by n bytes long each = fill_by_all (λ place. digit_char (n / 16 ^ (15 - place) % 16)) bytes 16 0 long each

sign_of_zero : (d : ℕ) → d ≡ 0 → (digit_char d == 48) ≡ true
sign_of_zero d e = grind (arith, nat_tests)

sign_of_other : (d : ℕ) → 0 < d → (digit_char d == 48) ≡ false
sign_of_other d h = grind (arith, nat_tests)

-- from the end back
from_end : (n k : ℕ) → k < 16 → get_or (reverse (sixteen_digits n)) k 0 ≡ digit_char (n / 16 ^ k % 16)
from_end n k h =
    let long = length-sixteen_digits n in
    get_or-reverse (sixteen_digits n) k 0 (omega arith) ∙ ap (λ x. get_or (sixteen_digits n) x 0) (let e : length (sixteen_digits n) - 1 - k ≡ 15 - k = omega arith in e) ∙ sixteen_digits_at n (15 - k) (omega arith) ∙ ap (λ x. digit_char (n / 16 ^ x % 16)) (let e : 15 - (15 - k) ≡ k = omega arith in e)

pub last_zeros : (n : ℕ) → 0 < n → n < 2 ^ 64 → suffix_len (λ byte. byte == 48) (sixteen_digits n) ≡ trailing_zeros w64 n / 4
last_zeros n pos below =
    let odd = odd_part 64 n pos below in
    let t = trailing_zeros w64 n in
    let within = odd.within in
    let long : length (reverse (sixteen_digits n)) ≡ 16 = length-reverse (sixteen_digits n) ∙ length-sixteen_digits n in
    prefix_len_is (λ byte. byte == 48) (reverse (sixteen_digits n)) (t / 4) 0 (omega arith)
    (λ k h. ap (λ x. x == 48) (from_end n k (omega arith)) ∙ sign_of_zero (n / 16 ^ k % 16) (digit_zero odd.half t k n odd.is (omega arith)))
    (λ h. ap (λ x. x == 48) (from_end n (t / 4) (omega arith)) ∙ sign_of_other (n / 16 ^ (t / 4) % 16) (digit_not_zero odd.half t (t / 4) n odd.is (omega arith) (omega arith)))

pub canonical_by_zeros : (n : ℕ) → 0 < n → n < 2 ^ 64 → canonical_token n ≡ take (16 - trailing_zeros w64 n / 4) (sixteen_digits n)
unfolding canonical_token without_last_zeros
canonical_by_zeros n pos below = ap₂ (λ x y. take (x - y) (sixteen_digits n)) (length-sixteen_digits n) (last_zeros n pos below)

-- the digits of the byte that the code shifts out
pub high_of_byte : (n pair byte d : ℕ) → pair < 8 → byte ≡ bit_and (n / 2 ^ (56 - 8 * pair)) 255 → d ≡ digit_char (byte / 16)
    → d ≡ digit_char (n / 16 ^ (15 - 2 * pair) % 16)
high_of_byte n pair byte d h is digit =
    let m = n / 2 ^ (56 - 8 * pair) in
    let own : byte ≡ m % 256 = is ∙ and_mask m 8 in
    let half : byte / 16 ≡ m / 16 % 16 = omega (arith, own) in
    let up : 56 - 8 * pair + 4 ≡ 4 * (15 - 2 * pair) = omega arith in
    digit ∙ ap digit_char (half ∙ ap (λ x. x % 16) (shr-shr n (56 - 8 * pair) 4 ∙ ap (λ k. n / 2 ^ k) up ∙ ap (λ x. n / x) (sixteen_pow (15 - 2 * pair))))

pub low_of_byte : (n pair byte d : ℕ) → pair < 8 → byte ≡ bit_and (n / 2 ^ (56 - 8 * pair)) 255 → d ≡ digit_char (byte % 16)
    → d ≡ digit_char (n / 16 ^ (15 - (2 * pair + 1)) % 16)
low_of_byte n pair byte d h is digit =
    let m = n / 2 ^ (56 - 8 * pair) in
    let own : byte ≡ m % 256 = is ∙ and_mask m 8 in
    let half : byte % 16 ≡ m % 16 = omega (arith, own) in
    let same : 56 - 8 * pair ≡ 4 * (15 - (2 * pair + 1)) = omega arith in
    digit ∙ ap digit_char (half ∙ ap (λ x. x % 16) (ap (λ k. n / 2 ^ k) same ∙ ap (λ x. n / x) (sixteen_pow (15 - (2 * pair + 1)))))

-- two digits more
pub two_digits_more : (n pair high low : ℕ) (bytes : List ℕ) → pair < 8 → length bytes ≡ 16
    → high ≡ digit_char (n / 16 ^ (15 - 2 * pair) % 16) → low ≡ digit_char (n / 16 ^ (15 - (2 * pair + 1)) % 16)
    → ((k : ℕ) → k < 2 * pair → get_or bytes k 0 ≡ digit_char (n / 16 ^ (15 - k) % 16))
    → (length (set (set bytes (2 * pair) high) (2 * pair + 1) low) ≡ 16) × ((k : ℕ) → k < 2 * (pair + 1) → get_or (set (set bytes (2 * pair) high) (2 * pair + 1) low) k 0 ≡ digit_char (n / 16 ^ (15 - k) % 16))
two_digits_more n pair high low bytes h long first second each =
    let one = set bytes (2 * pair) high in
    let Written : ℕ → Type 0 = λ k. get_or (set one (2 * pair + 1) low) k 0 ≡ digit_char (n / 16 ^ (15 - k) % 16) in
    let one_long : length one ≡ 16 = length-set bytes (2 * pair) high ∙ long in
    let before : (k : ℕ) → k < 2 * pair → Written k = λ k within.
    let a : k ≢ 2 * pair + 1 = omega arith in
    let b : k ≢ 2 * pair = omega arith in
    get_or-set_other one (2 * pair + 1) k low 0 a ∙ get_or-set_other bytes (2 * pair) k high 0 b ∙ each k within in
    let here : Written (2 * pair) =
    let a : 2 * pair ≢ 2 * pair + 1 = omega arith in
    get_or-set_other one (2 * pair + 1) (2 * pair) low 0 a ∙ get_or-set_same bytes (2 * pair) high 0 (omega arith) ∙ first in
    let next : Written (2 * pair + 1) = get_or-set_same one (2 * pair + 1) low 0 (omega arith) ∙ second in
    let all : (k : ℕ) → k < 2 * pair + 1 + 1 → Written k = below_more Written (2 * pair + 1) (below_more Written (2 * pair) before here) next in
    (length-set one (2 * pair + 1) low ∙ one_long, λ k within. all k (omega arith))
