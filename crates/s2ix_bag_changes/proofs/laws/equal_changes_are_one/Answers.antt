use Rattle.s2ix_bag_changes.proofs.Equal.{changes_decided}
use Rattle.s2ix_bag_changes.proofs.laws.equal_changes_are_one.Goals as goal

pub returns : goal.returns
returns c = changes_decided
