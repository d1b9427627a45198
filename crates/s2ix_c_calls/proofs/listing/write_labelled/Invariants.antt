-- The rows that are written are those of the pairs that came.
use Rattle.std.proofs.Common.{◌≡◌, ◌++◌, length, map, take, drop}
use Rattle.s2ix_bag_pairs.specs.OfLabel.{held_of}
use Rattle.s2ix_c_calls.specs.Lists.{row_of}
use Rattle.s2ix_c_calls.proofs.listing.write_labelled.Given as goal

abbrev pub invariant-loop-held : goal.invariant-loop-held
invariant-loop-held l =
    (l.count ≡ length l.yielded)
    × (l.yielded ++ l.held-iterator ≡ held_of l.fn.label l.store.bag.held)
    × (take l.count l.out ≡ map row_of l.yielded)
    × (drop l.count l.out ≡ drop l.count l.initial.out)
    × (length l.out ≡ length l.initial.out)
