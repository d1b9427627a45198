-- The line comes after what is gathered once there is room.
use Rattle.s2ix_text_write.specs.Lists.{line_between}
use Rattle.s2ix_text_write.proofs.Gathered.{failed_before, gathered_after}
use Rattle.s2ix_text_write.proofs.block.Block.write_parts.Goals as goal

pub returns-in_err-make_room : goal.returns-in_err-make_room
returns-in_err-make_room g c =
    failed_before _ (line_between c.args.between c.args.held) c.from_residual.result c.from_residual.ensures.0 c.in_err-make_room.ensures.failed

pub returns : goal.returns
returns g c = gathered_after (line_between c.args.between c.args.held) c.in_ok-make_room.ensures.gathered c.pair_at-self.ensures.line
