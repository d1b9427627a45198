use Rattle.s2ix_bag_lists.proofs.Unsorted.{changes_have_no_fault}
use Rattle.s2ix_bag_lists.proofs.laws.changes_have_no_fault.Goals as goal

pub returns : goal.returns
returns c = changes_have_no_fault
