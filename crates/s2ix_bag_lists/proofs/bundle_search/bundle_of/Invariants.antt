use Rattle.std.proofs.Common.{◌-◌}
use Rattle.s2ix_bag_pairs.specs.Pair.{rank_of}
use Rattle.s2ix_bag_lists.proofs.BundleSearch.{Spanned}
use Rattle.s2ix_bag_lists.proofs.bundle_search.bundle_of.Given as goal

abbrev pub invariant-loop-behind : goal.invariant-loop-behind
invariant-loop-behind l = Spanned l.bundles (rank_of l.pair) l.first l.end l.bundle l.behind l.low l.high

abbrev pub decreases-loop-behind : goal.decreases-loop-behind
decreases-loop-behind l = l.behind - l.bundle
