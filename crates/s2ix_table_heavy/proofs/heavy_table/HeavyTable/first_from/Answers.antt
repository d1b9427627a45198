use Rattle.std.proofs.Common.{◌+◌, ◌-◌, ◌/◌, List, arith, subst}
use Rattle.s2ix_bag_pairs.specs.Collection.{Collection}
use Rattle.s2ix_table_spans.proofs.Chains.{chain_some}
use Rattle.s2ix_table_heavy.specs.Chunks.{IsFirstFrom}
use Rattle.s2ix_table_heavy.proofs.CellSearch.{low_moves, high_moves, cell_of_mark}
use Rattle.s2ix_table_heavy.proofs.Kept.{marked}
use Rattle.s2ix_table_heavy.proofs.heavy_table.HeavyTable.first_from.Goals as goal

pub held_at-requires : goal.held_at-requires
held_at-requires c =
    let within = c.loop-low.invariant.within in
    let size = c.self.invariant.are_marks.size in
    chain_some c.self.inside.marks.held (c.loop-low.low + (c.loop-low.high - c.loop-low.low) / 2) (omega arith)

pub loop-low-preserved-then-raw : goal.loop-low-preserved-then-raw
loop-low-preserved-then-raw c =
    let chunks = c.self.inside.chunks.items in
    let marks = c.self.inside.marks in
    let middle = c.loop-low.low + (c.loop-low.high - c.loop-low.low) / 2 in
    let within = c.loop-low.invariant.within in
    let has = cell_of_mark chunks marks.held middle c.held_at.result (marked chunks marks c.self.invariant) (omega arith) c.held_at.ensures in
    low_moves chunks c.args.cell c.loop-low.low c.loop-low.high middle _ c.self.invariant.are_chunks c.loop-low.invariant (omega arith)
    (omega arith) has (let less = c.if-raw.true in let a = c.raw.ensures in let b = c.raw-in-loop-low.ensures in omega arith)

pub loop-low-preserved : goal.loop-low-preserved
loop-low-preserved c =
    let chunks = c.self.inside.chunks.items in
    let marks = c.self.inside.marks in
    let middle = c.loop-low.low + (c.loop-low.high - c.loop-low.low) / 2 in
    let within = c.loop-low.invariant.within in
    let has = cell_of_mark chunks marks.held middle c.held_at.result (marked chunks marks c.self.invariant) (omega arith) c.held_at.ensures in
    high_moves chunks c.args.cell c.loop-low.low c.loop-low.high middle _ c.self.invariant.are_chunks c.loop-low.invariant (omega arith)
    (omega arith) has (let more = c.if-raw.false in let a = c.raw.ensures in let b = c.raw-in-loop-low.ensures in omega arith)

pub returns : goal.returns
returns c =
    let was = c.loop-low.invariant in
    let end = c.loop-low-test.false in
    subst (λ (chunks : List Collection). IsFirstFrom chunks c.args.cell c.loop-low.low) c.self.view_is
    (record {
      before = was.before;
      from = λ j h ge i. was.from j h (let rises = was.rises in omega arith) i;
    })
