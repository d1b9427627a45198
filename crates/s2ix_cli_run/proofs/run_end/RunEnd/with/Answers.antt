use Rattle.std.proofs.Common.{rules}
use Rattle.s2ix_cli_run.proofs.run_end.RunEnd.with.Goals as goal

pub returns-in-PassedOver-clause-lines : goal.returns-in-PassedOver-clause-lines
returns-in-PassedOver-clause-lines c = search rules

pub returns-in-PassedOver-clause-refused : goal.returns-in-PassedOver-clause-refused
returns-in-PassedOver-clause-refused c = search rules

pub returns-in-Accepted-clause-lines : goal.returns-in-Accepted-clause-lines
returns-in-Accepted-clause-lines c = search rules

pub returns-in-Accepted-clause-refused : goal.returns-in-Accepted-clause-refused
returns-in-Accepted-clause-refused c = search rules

pub returns-in-Refused-clause-lines : goal.returns-in-Refused-clause-lines
returns-in-Refused-clause-lines c = search rules

pub returns-in-Refused-clause-refused : goal.returns-in-Refused-clause-refused
returns-in-Refused-clause-refused c = search rules
