use Rattle.std.proofs.Common.{rules}
use Rattle.s2ix_cli_script.proofs.refusal_names.undo_error_name.Goals as goal

pub returns-in-NothingToUndo : goal.returns-in-NothingToUndo
returns-in-NothingToUndo c = search rules

pub returns-in-OutOfMemory : goal.returns-in-OutOfMemory
returns-in-OutOfMemory c = search rules
