-- What is passed over has other labels.
use Rattle.std.proofs.Common.{◌≡◌, length}
use Rattle.s2ix_bag_pairs.specs.OfLabel.{held_of}
use Rattle.s2ix_bag_lists.proofs.held_iter.first_of.Given as goal

abbrev pub invariant-loop-first : goal.invariant-loop-first
invariant-loop-first l = held_of l.label l.initial.rest.now ≡ held_of l.label l.rest.now

abbrev pub decreases-loop-first : goal.decreases-loop-first
decreases-loop-first l = length l.rest.now
