-- What was added up and what is still to come make up the whole.
use Rattle.std.proofs.Common.{◌≡◌, ◌+◌}
use Rattle.s2ix_bag_pairs.specs.Collection.{copies_in}
use Rattle.s2ix_bag_changes.proofs.bag.Bag.copies.Given as goal

abbrev pub invariant-loop-held : goal.invariant-loop-held
invariant-loop-held l = l.copies + copies_in l.held-iterator ≡ copies_in l.self.held
