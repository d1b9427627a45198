-- The digits so far, and what they write.
use Rattle.std.proofs.Common.{◌≡◌, All, take}
use Rattle.std.specs.Str.Parse.{digits_value}
use Rattle.s2id_core.specs.Token.{IsLowerHex}
use Rattle.s2ix_text_parts.proofs.front.lower_digits.Given as goal

abbrev pub invariant-loop-place : goal.invariant-loop-place
invariant-loop-place l = All IsLowerHex (take l.place l.text) × (l.number ≡ digits_value 16 (take l.place l.text))
