use Rattle.std.proofs.Common.{rules}
use Rattle.s2ix_bag_lists.proofs.entries.fault.Goals as goal

pub returns-in-Some : goal.returns-in-Some
returns-in-Some c = search rules

pub returns : goal.returns
returns c = search rules
