use Rattle.std.proofs.Common.{◌≡◌, IfOk, List, Contains, subst, rules}
use Rattle.std.specs.Prelude.{IfSome}
use Rattle.s2ix_bag_lists.specs.Faces.{all_of}
use Rattle.s2ix_bag_pairs.specs.Collection.{Collection}
use Rattle.s2ix_bag_pairs.specs.declared.pair.Entry.{Entry}
use Rattle.s2ix_table_spans.specs.Blocks.{HoldsCell}
use Rattle.s2ix_table_parts.proofs.heavy_pairs.HeavyPairs.changed_chunk.Goals as goal

pub returns-in-Some-clause-cells : goal.returns-in-Some-clause-cells
returns-in-Some-clause-cells c =
    let same : c.deref.result.now ≡ c.args.self.now = search rules in
    let es = c.args.entries.now in
    subst (λ (cs : List Collection). IfOk c.changed_chunk.result (λ made. IfSome made (λ x. (e : Entry) → Contains es e → HoldsCell (all_of cs) e.pair.cell)))
    same c.changed_chunk.ensures.cells
