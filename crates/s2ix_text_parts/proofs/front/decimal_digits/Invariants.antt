-- The digits so far, and what they write.
use Rattle.std.proofs.Common.{◌≡◌, take}
use Rattle.std.specs.Str.Parse.{AllDigits, digits_value}
use Rattle.s2ix_text_parts.proofs.front.decimal_digits.Given as goal

abbrev pub invariant-loop-place : goal.invariant-loop-place
invariant-loop-place l = AllDigits 10 (take l.place l.text) × (l.number ≡ digits_value 10 (take l.place l.text))
