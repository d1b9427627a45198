use Rattle.std.proofs.Common.{rules}
use Rattle.s2ix_bag_held.proofs.flat.FlatHeld.cell.Goals as goal

pub returns : goal.returns
returns c = search rules
