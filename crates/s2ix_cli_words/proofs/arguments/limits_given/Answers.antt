use Rattle.std.proofs.Common.{rules}
use Rattle.s2ix_cli_words.proofs.arguments.limits_given.Goals as goal

pub returns-in_err-pairs-clause-given : goal.returns-in_err-pairs-clause-given
returns-in_err-pairs-clause-given c = search rules

pub returns-in_err-pairs-clause-refused : goal.returns-in_err-pairs-clause-refused
returns-in_err-pairs-clause-refused c = search rules

pub returns-in_err-count-clause-given : goal.returns-in_err-count-clause-given
returns-in_err-count-clause-given c = search rules

pub returns-in_err-count-clause-refused : goal.returns-in_err-count-clause-refused
returns-in_err-count-clause-refused c = search rules

pub returns-in_err-changes-clause-given : goal.returns-in_err-changes-clause-given
returns-in_err-changes-clause-given c = search rules

pub returns-in_err-changes-clause-refused : goal.returns-in_err-changes-clause-refused
returns-in_err-changes-clause-refused c = search rules

pub returns-clause-given : goal.returns-clause-given
returns-clause-given c = search rules

pub returns-clause-refused : goal.returns-clause-refused
returns-clause-refused c = search rules
