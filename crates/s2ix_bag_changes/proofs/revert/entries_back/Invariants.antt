use Rattle.std.proofs.Common.{◌≡◌, take}
use Rattle.s2ix_bag_pairs.specs.TakenBack.{change_back}
use Rattle.s2ix_bag_changes.proofs.revert.entries_back.Given as goal

abbrev pub invariant-loop-entry : goal.invariant-loop-entry
invariant-loop-entry l = l.back.items ≡ change_back l.bag.held (take l.entry-index l.entries)
