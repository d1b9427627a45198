use Rattle.std.proofs.Common.{rules}
use Rattle.s2ix_bag_changes.proofs.change.Change.entries.Goals as goal

pub returns-clause-list : goal.returns-clause-list
returns-clause-list c = search rules

pub returns-clause-rises : goal.returns-clause-rises
returns-clause-rises c = search rules
