use Rattle.std.proofs.Common.{length}
use Rattle.s2ix_edit_store.proofs.joining.+joined_change.Given as goal

abbrev pub decreases-joined_change : goal.decreases-joined_change
decreases-joined_change l = length l.changes.now
