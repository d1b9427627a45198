use Rattle.std.proofs.Common.{◌≡◌, ◌↔◌, IsTrue, List, subst, rules}
use Rattle.s2ix_bag_lists.specs.Faces.{all_of}
use Rattle.s2ix_bag_pairs.specs.Collection.{Collection}
use Rattle.s2ix_table_spans.specs.Blocks.{HoldsCell}
use Rattle.s2ix_table_parts.proofs.heavy_pairs.HeavyPairs.has_cell.Goals as goal

pub returns-in-Some : goal.returns-in-Some
returns-in-Some c =
    let same : c.deref.result.now ≡ c.args.self.now = search rules in
    subst (λ (cs : List Collection). IsTrue c.has_cell.result ↔ HoldsCell (all_of cs) c.args.cell) same c.has_cell.ensures
