use Rattle.s2ix_bag_lists.proofs.Comparing.{Comparing}
use Rattle.s2ix_bag_lists.proofs.compare.differences.Given as goal

abbrev pub invariant-loop-flat : goal.invariant-loop-flat
invariant-loop-flat l = Comparing l.old l.new l.out.items l.rest l.flat-index
