use Rattle.std.proofs.Common.{take}
use Rattle.s2ix_bag_held.specs.LabelFilter.{LetsThroughAll}
use Rattle.s2ix_bag_held.proofs.label_filter.LabelFilter.of_pairs.Given as goal

abbrev pub invariant-loop-held : goal.invariant-loop-held
invariant-loop-held l = LetsThroughAll l.filter (take l.held-index l.held)
