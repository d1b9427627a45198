-- The pairs so far are the same.
use Rattle.std.proofs.Common.{◌≡◌}
use Rattle.std.specs.Cmp.Lexicographic.{pointwise}
use Rattle.s2ix_bag_pairs.specs.contracts.pair.HeldPartialEq.TheImpl.{eq-value as held_test}
use Rattle.s2ix_bag_lists.proofs.same.FaceListsPartialEq.eq.Given as goal

abbrev pub invariant-loop-held : goal.invariant-loop-held
invariant-loop-held l = pointwise held_test.it l.fn.self l.fn.other ≡ pointwise held_test.it l.held-iterator l.theirs
