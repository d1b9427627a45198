use Rattle.s2ix_edit_store.proofs.Standing.{counts_are_sums}
use Rattle.s2ix_edit_store.proofs.laws.counts_are_first_and_standing.Goals as goal

pub returns : goal.returns
returns c = counts_are_sums
