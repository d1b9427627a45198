-- What holds of what a function makes, if it makes something and does not fail.
use Rattle.std.specs.Prelude.{IfOk, IfSome, Option, Result}

abbrev pub IfOkSome : {X E : Type 0} → Result (Option X) E → (X → Type 0) → Type 0
IfOkSome result holds = IfOk result (λ made. IfSome made holds)
