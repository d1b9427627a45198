-- All lines are gathered, and what is left of them is put.
use Rattle.s2ix_text_parts.proofs.Writing.{Writes-fault}
use Rattle.s2ix_text_write.proofs.Gathered.{put_out}
use Rattle.s2ix_text_write.proofs.list.write_lines.Goals as goal

pub returns-in_err-gather_lines : goal.returns-in_err-gather_lines
returns-in_err-gather_lines g c = Writes-fault _ c.from_residual.ensures.0 (rw c.new-block.ensures at c.in_err-gather_lines.ensures)

pub returns : goal.returns
returns g c = put_out (rw c.new-block.ensures at c.in_ok-gather_lines.ensures) c.put.ensures
