use Rattle.s2ix_table.proofs.laws.chain_table_has_few_ranges.Goals as goal

pub returns : goal.returns
returns c = c.ranges_are_those_of_the_span.ensures.ranges_few
