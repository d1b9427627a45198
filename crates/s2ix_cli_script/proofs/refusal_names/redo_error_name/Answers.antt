use Rattle.std.proofs.Common.{rules}
use Rattle.s2ix_cli_script.proofs.refusal_names.redo_error_name.Goals as goal

pub returns-in-NothingToRedo : goal.returns-in-NothingToRedo
returns-in-NothingToRedo c = search rules

pub returns-in-OutOfMemory : goal.returns-in-OutOfMemory
returns-in-OutOfMemory c = search rules
