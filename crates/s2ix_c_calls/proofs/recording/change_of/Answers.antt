-- The list has the entries that the rows give.
use Rattle.s2ix_c_calls.proofs.OfEntries.{given_change}
use Rattle.s2ix_c_calls.proofs.recording.change_of.Goals as goal

pub from_vec-requires : goal.from_vec-requires
from_vec-requires c = given_change c.args.rows.now c.in_ok-entries.entries.items c.requires c.in_ok-entries.ensures.entries
