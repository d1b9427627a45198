use Rattle.std.proofs.Common.{List, subst}
use Rattle.s2ix_bag_pairs.specs.Collection.{Collection}
use Rattle.s2ix_table_spans.specs.Once.{KeepsOnce}
use Rattle.s2ix_table_heavy.specs.HeavyChains.{heavy_chain}
use Rattle.s2ix_table_heavy.proofs.OnePlace.{keeps_once}
use Rattle.s2ix_table_heavy.proofs.laws.heavy_pairs_have_one_place.Goals as goal

pub returns : goal.returns
returns c =
    subst (λ (chunks : List Collection). KeepsOnce (heavy_chain chunks)) c.table.view_is
    (keeps_once c.table.inside.chunks.items c.table.invariant.are_chunks)
