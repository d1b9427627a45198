use Rattle.std.proofs.Common.{List, sym, subst}
use Rattle.s2ix_bag_pairs.specs.Collection.{Collection}
use Rattle.s2ix_table_heavy.specs.ChangedChunk.{FitsChunk}
use Rattle.s2ix_table_heavy.proofs.ChangingChunk.{marks_stay}
use Rattle.s2ix_table_heavy.proofs.heavy_table.HeavyTable.set_chunk.Goals as goal

pub invariant_of-self : goal.invariant_of-self
invariant_of-self c =
    let chunks = c.self.inside.chunks.items in
    let marks = c.self.inside.marks in
    let was = c.self.invariant in
    let fits = subst (λ (cs : List Collection). FitsChunk cs c.args.chunk.number c.args.chunk.held) (sym c.self.view_is) c.requires in
    record {
      are_chunks = fits.are_chunks;
      are_marks = marks_stay chunks marks.held c.args.chunk.number c.args.chunk.held was.are_chunks was.are_marks fits;
      from = was.from;
      to = was.to;
      table = was.table;
    }
