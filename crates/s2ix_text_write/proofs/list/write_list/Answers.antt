-- All lines are gathered, and put with the end line.
use Rattle.std.proofs.Common.{length}
use Rattle.s2ix_text_write.specs.Lists.{end_of_list, list_text}
use Rattle.s2ix_text_parts.proofs.Writing.{Writes-cut}
use Rattle.s2ix_text_write.proofs.Gathered.{gathered_last}
use Rattle.s2ix_text_write.proofs.list.write_list.Goals as goal

pub returns-in_err-gather_lines : goal.returns-in_err-gather_lines
unfolding list_text
returns-in_err-gather_lines g c =
    Writes-cut _ (end_of_list (length c.args.items.now)) c.from_residual.ensures.0
    (rw c.new-block.ensures at c.in_err-gather_lines.ensures)

pub returns : goal.returns
unfolding list_text
returns g c =
    gathered_last (end_of_list (length c.args.items.now)) (rw c.new-block.ensures at c.in_ok-gather_lines.ensures) c.write_end.ensures.text
