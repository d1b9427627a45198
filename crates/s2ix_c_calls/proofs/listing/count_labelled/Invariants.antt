-- The pairs that are counted are those that came.
use Rattle.std.proofs.Common.{◌≡◌, ◌++◌, length}
use Rattle.s2ix_bag_pairs.specs.OfLabel.{held_of}
use Rattle.s2ix_c_calls.proofs.listing.count_labelled.Given as goal

abbrev pub invariant-loop-held : goal.invariant-loop-held
invariant-loop-held l = (l.count ≡ length l.yielded) × (l.yielded ++ l._held-iterator ≡ held_of l.fn.label l.store.bag.held)
