-- When a run may want memory among its lines.
use Rattle.std.specs.Prelude.{◌≡◌, ℕ, List, ◌∷◌, ◌++◌}
use Rattle.std.specs.Io.KnownBytes.{Appends}
use Rattle.s2ix_cli_run.specs.LineWants.{LineWants}
use Rattle.s2ix_cli_run.specs.Script.{Run, after, run_lines, output_of}

-- a line of those to be carried out wanted memory: the store stands after the lines before it, whose whole output went out
pub record WantsAmong (lines : List (List ℕ)) (run : Run) : Type 0 where
  pub done : List (List ℕ)
  pub line : List ℕ
  pub rest : List (List ℕ)
  pub are_run : run_lines run.stop run.store_before lines ≡ done ++ line ∷ rest
  pub store : run.store_after ≡ after run.store_before done
  pub output : Appends run.taken_before run.taken_after (output_of run.store_before done)
  pub wants : LineWants run.store_after line
