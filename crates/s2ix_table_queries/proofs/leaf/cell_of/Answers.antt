-- The number's cell is the one that was found.
use Rattle.s2ix_table_queries.proofs.Numbers.{is_numbered}
use Rattle.s2ix_table_queries.proofs.leaf.cell_of.Goals as goal

pub returns-clause-cell : goal.returns-clause-cell
returns-clause-cell c = is_numbered c.args.number c.from_raw.result c.from_raw.ensures.found c.from_raw.ensures.number
