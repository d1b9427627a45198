use Rattle.std.proofs.Common.{rules}
use Rattle.s2ix_cli_run.proofs.queries.print_export.Goals as goal

pub returns-in_err-text-clause-runs : goal.returns-in_err-text-clause-runs
returns-in_err-text-clause-runs g c = search rules

pub returns-in_err-text-clause-faults : goal.returns-in_err-text-clause-faults
returns-in_err-text-clause-faults g c = search rules

pub returns-in_err-put_parts-clause-runs : goal.returns-in_err-put_parts-clause-runs
returns-in_err-put_parts-clause-runs g c = search rules

pub returns-in_err-put_parts-clause-faults : goal.returns-in_err-put_parts-clause-faults
returns-in_err-put_parts-clause-faults g c = search rules

pub returns-clause-runs : goal.returns-clause-runs
returns-clause-runs g c = search rules

pub returns-clause-faults : goal.returns-clause-faults
returns-clause-faults g c = search rules
