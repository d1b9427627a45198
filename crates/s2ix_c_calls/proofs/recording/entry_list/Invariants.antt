use Rattle.std.proofs.Common.{take}
use Rattle.s2ix_c_calls.specs.Recording.{GiveEntries}
use Rattle.s2ix_c_calls.proofs.recording.entry_list.Given as goal

abbrev pub invariant-loop-row : goal.invariant-loop-row
invariant-loop-row l = GiveEntries (take l.row-index l.rows) l.list.items
