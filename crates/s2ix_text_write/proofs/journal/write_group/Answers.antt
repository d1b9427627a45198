-- The line above the entries and theirs are written one after the other.
use Rattle.std.proofs.Common.{List, flat_map, subst}
use Rattle.s2ix_bag_pairs.specs.declared.pair.Entry.{Entry}
use Rattle.s2ix_text_write.specs.Journal.{entry_line, group_text}
use Rattle.s2ix_text_parts.specs.Puts.{Writes}
use Rattle.s2ix_text_parts.proofs.Writing.{Writes-cut, Writes-then}
use Rattle.s2ix_text_write.proofs.journal.write_group.Goals as goal

pub returns-in_err-write_change_line : goal.returns-in_err-write_change_line
unfolding group_text
returns-in_err-write_change_line g c =
    let WritesGroup : List Entry → Type 0 =
    λ es. Writes g.K.Sink c.args.sink.now c.write_change_line.new.sink c.from_residual.result (group_text es) in
    subst WritesGroup c.entries-entries.ensures.list
    (Writes-cut _ (flat_map entry_line c.entries-entries.result.now) c.from_residual.ensures.0 c.in_err-write_change_line.ensures)

pub returns : goal.returns
unfolding group_text
returns g c =
    let WritesGroup : List Entry → Type 0 =
    λ es. Writes g.K.Sink c.args.sink.now c.write_lines.new.sink c.write_lines.result (group_text es) in
    subst WritesGroup c.entries-entries.ensures.list (Writes-then c.in_ok-write_change_line.ensures c.write_lines.ensures)
