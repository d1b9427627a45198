use Rattle.std.proofs.Common.{◌≡◌, ◌+◌, ◌++◌, length}
use Rattle.s2ix_bag_lists.specs.Bundles.{bundle_starts, lists_of}
use Rattle.s2ix_bag_lists.proofs.shared_lists.bundle_starts_of.Given as goal

abbrev pub invariant-loop-bundle : goal.invariant-loop-bundle
invariant-loop-bundle l =
    (l.starts.items ++ bundle_starts l.before l.rest ≡ bundle_starts 0 l.bundles)
    × (l.before + length (lists_of l.rest) ≡ length (lists_of l.bundles))

abbrev pub decreases-loop-bundle : goal.decreases-loop-bundle
decreases-loop-bundle l = length l.rest
