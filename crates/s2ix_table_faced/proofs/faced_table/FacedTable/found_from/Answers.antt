use Rattle.std.proofs.Common.{sym, subst}
use Rattle.s2id_core.specs.CellId.{raw_of}
use Rattle.s2ix_table_spans.specs.SpanTable.{SpanRanges}
use Rattle.s2ix_table_faced.proofs.FirstParts.{HasLeaf, leaf_in}
use Rattle.s2ix_table_faced.proofs.faced_table.FacedTable.found_from.Goals as goal

pub find_near-requires-clause-ends : goal.find_near-requires-clause-ends
find_near-requires-clause-ends c =
    (subst (λ (s : SpanRanges). HasLeaf s (raw_of c.args.leaf)) (sym c.span-span.ensures)
    (leaf_in c.args.leaf c.args.part c.args.self.now.joined c.requires)).to
