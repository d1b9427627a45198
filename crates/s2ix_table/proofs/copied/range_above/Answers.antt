use Rattle.std.proofs.Common.{◌∙◌, sym, arith}
use Rattle.s2ix_table.proofs.Building.{bound_changes}
use Rattle.s2ix_table_walk.proofs.Tables.{stays_between}
use Rattle.s2ix_table.proofs.copied.range_above.Goals as goal

pub returns-clause-shared : goal.returns-clause-shared
returns-clause-shared c q from to =
    stays_between c.args.held.now c.args.at c.next_bound-limit.result q c.next_bound-limit.ensures from (omega arith)
    ∙ sym c.in_ok-contents.ensures

pub returns-clause-maximal : goal.returns-clause-maximal
returns-clause-maximal c below same =
    bound_changes c.args.held.now c.args.at c.next_bound-limit.result c.requires.odd c.next_bound-limit.ensures below
    (same ∙ c.in_ok-contents.ensures)
