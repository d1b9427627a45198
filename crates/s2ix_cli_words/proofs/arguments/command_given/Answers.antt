use Rattle.std.proofs.Common.{rules}
use Rattle.s2ix_cli_words.proofs.arguments.command_given.Goals as goal

pub returns-in_err-file-in-check-clause-given : goal.returns-in_err-file-in-check-clause-given
returns-in_err-file-in-check-clause-given c = search rules

pub returns-in_err-file-in-check-clause-refused : goal.returns-in_err-file-in-check-clause-refused
returns-in_err-file-in-check-clause-refused c = search rules

pub returns-in_err-dump-in-replay-clause-given : goal.returns-in_err-dump-in-replay-clause-given
returns-in_err-dump-in-replay-clause-given c = search rules

pub returns-in_err-dump-in-rewind-clause-given : goal.returns-in_err-dump-in-rewind-clause-given
returns-in_err-dump-in-rewind-clause-given c = search rules

pub returns-in-run-clause-given : goal.returns-in-run-clause-given
returns-in-run-clause-given c = search rules

pub returns-in-run-clause-refused : goal.returns-in-run-clause-refused
returns-in-run-clause-refused c = search rules

pub returns-in_ok-file-in-check-clause-given : goal.returns-in_ok-file-in-check-clause-given
returns-in_ok-file-in-check-clause-given c = search rules

pub returns-in_ok-file-in-check-clause-refused : goal.returns-in_ok-file-in-check-clause-refused
returns-in_ok-file-in-check-clause-refused c = search rules

pub returns-in_default-clause-given : goal.returns-in_default-clause-given
returns-in_default-clause-given c = search rules

pub returns-in_default-clause-refused : goal.returns-in_default-clause-refused
returns-in_default-clause-refused c = search rules
