-- The header, the groups of the changes and the last line are written one after the other.
use Rattle.std.proofs.Common.{◌++◌, flat_map}
use Rattle.s2ix_text_write.specs.Journal.{group_text, journal_in, last_line}
use Rattle.s2ix_text_write.specs.Lists.{end_of_list}
use Rattle.s2ix_text_parts.proofs.Writing.{Writes-cut, Writes-then}
use Rattle.s2ix_text_write.proofs.journal.write_journal.Goals as goal

pub returns-in_err-put_all : goal.returns-in_err-put_all
unfolding journal_in
returns-in_err-put_all g c =
    Writes-cut _ (flat_map group_text c.args.changes.now ++ last_line c.args.changes.now) c.from_residual.ensures.0 c.in_err-put_all.ensures

pub returns-in_err-write_groups : goal.returns-in_err-write_groups
unfolding journal_in
returns-in_err-write_groups g c =
    Writes-then c.in_ok-put_all.ensures
    (Writes-cut _ (last_line c.args.changes.now) c.from_residual-in_err-write_groups.ensures.0 c.in_err-write_groups.ensures)

pub returns : goal.returns
unfolding journal_in last_line end_of_list
returns g c = Writes-then c.in_ok-put_all.ensures (Writes-then c.in_ok-write_groups.ensures c.write_end_of_list.ensures)
