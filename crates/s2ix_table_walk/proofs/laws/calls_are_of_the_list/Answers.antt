use Rattle.s2ix_table_walk.proofs.Visits.{calls_most, calls_whole}
use Rattle.s2ix_table_walk.proofs.laws.calls_are_of_the_list.Goals as goal

pub returns-clause-at_most : goal.returns-clause-at_most
returns-clause-at_most g c f last pairs k whole calls = calls_most (λ p x r q. goal.F-step g p x r q) f last pairs k whole calls

pub returns-clause-whole : goal.returns-clause-whole
returns-clause-whole g c f last pairs k calls = calls_whole (λ p x r q. goal.F-step g p x r q) f last pairs k calls
