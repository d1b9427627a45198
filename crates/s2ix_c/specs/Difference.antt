-- Calls on the stores of two handles.
use Rattle.std.specs.Prelude.{Option, Some, None}
use Rattle.s2ix_edit_plan.specs.State.{State}

-- P holds of the stores of two handles; or C holds, if one of them is closed
abbrev pub OfBoth : (State → State → Type 0) → Type 0 → Option State → Option State → Type 0
OfBoth P C None second = C
OfBoth P C (Some s) None = C
OfBoth P C (Some s) (Some t) = P s t
