-- Each row gives an entry.
use Rattle.s2ix_c_calls.proofs.OfEntries.{none_wrong}
use Rattle.s2ix_c_calls.proofs.recording.entry_list.Goals as goal

pub unreachable-requires : goal.unreachable-requires
unreachable-requires c =
    none_wrong c.args.rows.now c.loop-row.row-index _ c.in_default.field-0 c.requires c.loop-row-test.true c.in_default.ensures
