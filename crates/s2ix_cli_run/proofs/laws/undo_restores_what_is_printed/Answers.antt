use Rattle.std.proofs.Common.{List, ℕ, [], ◌++◌, refl, ap}
use Rattle.s2ix_cli_script.specs.declared.instruction.Instruction.TheVariants as asks
use Rattle.s2ix_cli_run.proofs.Asked.{restored}
use Rattle.s2ix_cli_run.proofs.laws.undo_restores_what_is_printed.Goals as goal

pub returns : goal.returns
returns c = record {
  dump = λ s line undo dump st both asked. ap (λ (l : List ℕ). l ++ []) (restored s line undo dump asks.Dump st both asked refl);
  questions =
      λ s line undo question instruction st both asked is. ap (λ (l : List ℕ). l ++ [])
      (restored s line undo question instruction st both asked is);
}
