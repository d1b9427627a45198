use Rattle.std.proofs.Common.{◌≡◌, take}
use Rattle.std.specs.Str.Parse.{AllDigits, digits_value}
use Rattle.s2id_core.proofs.token.spelled_number.Given as goal

abbrev pub invariant-loop-place : goal.invariant-loop-place
invariant-loop-place l =
    AllDigits 16 (take l.place l.text) × (l.number ≡ digits_value 16 (take l.place l.text))
