-- What a script comes to: its lines one after the other.
use Rattle.std.specs.Prelude.{ℕ, ◌+◌, ◌-◌, ◌^◌, ◌&&◌, if◌then◌else◌, Bool, Option, List, [], ◌∷◌, ◌++◌}
use Rattle.s2ix_edit_plan.specs.State.{State}
use Rattle.s2ix_cli_run.specs.Step.{step_of}

-- what lines are carried out over: whether the first that is refused is the last one, the store before and after, and what the sink had
-- taken before and after
pub record Run : Type 0 where
  pub stop : Bool
  pub store_before : State
  pub store_after : State
  pub taken_before : Option (List ℕ)
  pub taken_after : Option (List ℕ)

-- the store after lines
abbrev pub after : State → List (List ℕ) → State
after s [] = s
after s (line ∷ lines) = after (step_of s line).after lines

-- what lines print
abbrev pub output_of : State → List (List ℕ) → List ℕ
output_of s [] = []
output_of s (line ∷ lines) = (step_of s line).answer ++ output_of (step_of s line).after lines

-- how many lines count
abbrev pub counted_in : State → List (List ℕ) → ℕ
counted_in s [] = 0
counted_in s (line ∷ lines) = (if (step_of s line).is_counted then 1 else 0) + counted_in (step_of s line).after lines

-- how many lines are refused
abbrev pub refused_in : State → List (List ℕ) → ℕ
refused_in s [] = 0
refused_in s (line ∷ lines) = (if (step_of s line).is_refused then 1 else 0) + refused_in (step_of s line).after lines

-- the lines that are carried out: all, or with `stop` up to and including the first that is refused
abbrev pub run_lines : Bool → State → List (List ℕ) → List (List ℕ)
run_lines stop s [] = []
run_lines stop s (line ∷ lines) =
    line ∷ (if stop && (step_of s line).is_refused then [] else run_lines stop (step_of s line).after lines)

-- the greatest count that a run tells
abbrev pub MOST : ℕ
MOST = 2 ^ 64 - 1
