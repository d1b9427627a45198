-- The line comes after what is gathered once there is room.
use Rattle.s2ix_text_write.proofs.Gathered.{failed_before, gathered_after}
use Rattle.s2ix_text_write.proofs.block.Block.write_line.Goals as goal

pub returns-in_err-make_room : goal.returns-in_err-make_room
returns-in_err-make_room g c =
    failed_before _ (g.A.ListItem.line c.args.item) c.from_residual.result c.from_residual.ensures.0 c.in_err-make_room.ensures.failed

pub returns : goal.returns
returns g c = gathered_after (g.A.ListItem.line c.args.item) c.in_ok-make_room.ensures.gathered c.line_at-self.ensures.line
