use Rattle.std.proofs.Common.{◌≡◌, ◌++◌, take}
use Rattle.s2ix_bag_lists.proofs.shared_lists.share_bundles.Given as goal

abbrev pub invariant-loop-bundle : goal.invariant-loop-bundle
invariant-loop-bundle l = l.out.items ≡ l.fn.out.items ++ take l.bundle-index l.bundles
