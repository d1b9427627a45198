use Rattle.std.proofs.Common.{◌≡◌, Some}
use Rattle.s2ix_table_walk.specs.Places.{IsPlace}
use Rattle.s2ix_table_heavy.specs.HeavyChains.{heavy_chain}
use Rattle.s2ix_table_heavy.specs.declared.heavy_place.HeavyPlace.{HeavyPlace}
use Rattle.s2ix_table_tests.proofs.heavy_tests.has_chain.Given as goal

abbrev pub invariant-loop-text : goal.invariant-loop-text
invariant-loop-text l = (p : HeavyPlace) → l.place ≡ Some p → IsPlace (heavy_chain l.table) p
