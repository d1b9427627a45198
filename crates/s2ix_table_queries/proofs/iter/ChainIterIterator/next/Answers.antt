use Rattle.std.proofs.Common.{rules}
use Rattle.s2ix_table_queries.proofs.iter.ChainIterIterator.next.Goals as goal

pub returns-in_err-place-clause-steps : goal.returns-in_err-place-clause-steps
returns-in_err-place-clause-steps g c = search rules

pub returns-in_err-place-clause-goes : goal.returns-in_err-place-clause-goes
returns-in_err-place-clause-goes g c = search rules

pub returns-clause-steps : goal.returns-clause-steps
returns-clause-steps g c = search rules

pub returns-clause-goes : goal.returns-clause-goes
returns-clause-goes g c = search rules
