use Rattle.std.proofs.Common.{◌≤◌, subst, arith}
use Rattle.s2id_core.specs.CellId.{first_of, end_of}
use Rattle.s2ix_bag_pairs.specs.declared.pair.Entry.{Entry}
use Rattle.s2ix_table_heavy.proofs.ChangedCells.{all_front, all_of_them}
use Rattle.s2ix_table_parts.proofs.change.light_after.span_of.Goals as goal

pub loop-entry-preserved : goal.loop-entry-preserved
loop-entry-preserved c =
    let e = c.entry-item.result in
    let es = c.args.entries.now in
    let i = c.loop-entry.entry-index in
    let was = c.loop-entry.invariant in
    let least = c.min-begin.ensures in
    let most = c.max-reach.ensures in
    let start = c.span_start.ensures in
    let end = c.span_end.ensures in
    let Begins : Entry → Type 0 = λ x. c.min-begin.result ≤ first_of x.pair.cell in
    let Ends : Entry → Type 0 = λ x. end_of x.pair.cell ≤ c.max-reach.result in
    let begins : Begins e = omega arith in
    let ends : Ends e = omega arith in (
      all_front Begins i es e c.loop-entry-test.true (λ x is. let le = was.0 x is in omega arith) (subst Begins c.entry-item.is begins),
      all_front Ends i es e c.loop-entry-test.true (λ x is. let le = was.1 x is in omega arith) (subst Ends c.entry-item.is ends),
    )

pub returns-clause-begins : goal.returns-clause-begins
returns-clause-begins c =
    all_of_them (λ (e : Entry). c.loop-entry.begin ≤ first_of e.pair.cell) c.loop-entry.entry-index c.args.entries.now (omega arith)
    c.loop-entry.invariant.0

pub returns-clause-ends : goal.returns-clause-ends
returns-clause-ends c =
    all_of_them (λ (e : Entry). end_of e.pair.cell ≤ c.loop-entry.reach) c.loop-entry.entry-index c.args.entries.now (omega arith)
    c.loop-entry.invariant.1
