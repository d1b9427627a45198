use Rattle.std.proofs.Common.{rules}
use Rattle.s2ix_table_spans.proofs.sweep.sweep_span.Goals as goal

pub returns-in_err-outer : goal.returns-in_err-outer
returns-in_err-outer c = search rules

pub returns-in_err-starts : goal.returns-in_err-starts
returns-in_err-starts c = search rules

pub returns-in_err-firsts : goal.returns-in_err-firsts
returns-in_err-firsts c = search rules

pub returns : goal.returns
returns c = search rules
