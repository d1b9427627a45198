use Rattle.std.proofs.Common.{rules}
use Rattle.s2ix_cli_words.proofs.arguments.run_given.Goals as goal

pub returns-in_default-clause-given : goal.returns-in_default-clause-given
returns-in_default-clause-given c = search rules

pub returns-in_default-clause-refused : goal.returns-in_default-clause-refused
returns-in_default-clause-refused c = search rules

pub returns-in_err-start-clause-given : goal.returns-in_err-start-clause-given
returns-in_err-start-clause-given c = search rules

pub returns-in_err-start-clause-refused : goal.returns-in_err-start-clause-refused
returns-in_err-start-clause-refused c = search rules

pub returns-clause-given : goal.returns-clause-given
returns-clause-given c = search rules

pub returns-clause-refused : goal.returns-clause-refused
returns-clause-refused c = search rules
