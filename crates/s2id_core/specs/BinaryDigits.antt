-- How many binary digits a number has.
use Rattle.std.specs.Prelude.{ℕ, length}
use Rattle.std.specs.Int.Digits.{digits_of}

-- how many binary digits a number has: none at 0
unfoldable pub binary_digits : ℕ → ℕ
binary_digits n = length (digits_of 2 n)
