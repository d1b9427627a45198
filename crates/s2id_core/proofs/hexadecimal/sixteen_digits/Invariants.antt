use Rattle.std.proofs.Common.{◌≡◌, ℕ, ◌-◌, ◌*◌, ◌/◌, ◌%◌, ◌^◌, ◌<◌, length, get_or}
use Rattle.std.specs.Char.{digit_char}
use Rattle.s2id_core.proofs.hexadecimal.sixteen_digits.Given as goal

abbrev pub invariant-loop-pair : goal.invariant-loop-pair
invariant-loop-pair l =
    (length l.digits ≡ 16) × ((k : ℕ) → k < 2 * l.pair → get_or l.digits k 0 ≡ digit_char (l.number / 16 ^ (15 - k) % 16))
