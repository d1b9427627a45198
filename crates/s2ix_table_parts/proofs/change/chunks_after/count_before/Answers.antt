-- Where the steps end, the entry at hand isn't before the pair, or the list ends.
use Rattle.std.proofs.Common.{◌+◌, ◌*◌, arith, rules}
use Rattle.s2ix_bag_lists.proofs.Ends.{entries_below_more, entries_from}
use Rattle.s2ix_table_parts.proofs.change.chunks_after.count_before.Goals as goal

pub loop-count-preserved : goal.loop-count-preserved
loop-count-preserved c = (
  omega arith,
  entries_below_more (c.args.number * 2147483648 + c.args.label) c.loop-count.count c.args.entries.now c.index-entries-count.result (omega arith)
      c.loop-count.invariant.1 (let lt = c.is_before.ensures.0 c.if-is_before.true in search rules),
)

pub returns-else-is_before-clause-rest : goal.returns-else-is_before-clause-rest
returns-else-is_before-clause-rest c =
    entries_from (c.args.number * 2147483648 + c.args.label) c.loop-count.count 0 c.args.entries.now c.index-entries-count.result c.requires.rises
    (λ within. search rules)
