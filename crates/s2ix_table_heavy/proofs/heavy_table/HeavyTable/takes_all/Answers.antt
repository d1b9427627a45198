use Rattle.std.proofs.Common.{arith, subst}
use Rattle.s2ix_bag_pairs.specs.declared.pair.Entry.{Entry}
use Rattle.s2ix_table_heavy.specs.ChangedChunk.{IsPairOf}
use Rattle.s2ix_table_heavy.proofs.ChangedCells.{all_front, all_of_them}
use Rattle.s2ix_table_heavy.proofs.heavy_table.HeavyTable.takes_all.Goals as goal

pub loop-entry-preserved : goal.loop-entry-preserved
loop-entry-preserved c =
    let IsOf : Entry → Type 0 = λ e. IsPairOf c.args.self.now c.args.number e.pair in
    all_front IsOf c.loop-entry.entry-index c.args.entries.now c.entry-item.result c.loop-entry-test.true c.loop-entry.invariant
    (subst IsOf c.entry-item.is (c.takes.ensures c.if-not-takes.false))

pub returns : goal.returns
returns c = λ all.
    all_of_them (λ (e : Entry). IsPairOf c.args.self.now c.args.number e.pair) c.loop-entry.entry-index c.args.entries.now (omega arith)
    c.loop-entry.invariant
