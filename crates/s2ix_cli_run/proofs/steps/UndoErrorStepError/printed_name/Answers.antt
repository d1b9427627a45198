use Rattle.std.proofs.Common.{rules}
use Rattle.s2ix_cli_run.proofs.steps.UndoErrorStepError.printed_name.Goals as goal

pub returns-in-OutOfMemory-clause-name : goal.returns-in-OutOfMemory-clause-name
returns-in-OutOfMemory-clause-name c = search rules

pub returns-in-OutOfMemory-clause-memory : goal.returns-in-OutOfMemory-clause-memory
returns-in-OutOfMemory-clause-memory c = search rules

pub returns-in_default-clause-name : goal.returns-in_default-clause-name
returns-in_default-clause-name c = search rules

pub returns-in_default-clause-memory : goal.returns-in_default-clause-memory
returns-in_default-clause-memory c = search rules
