-- One line more is gathered, or the sink failed.
use Rattle.std.proofs.Common.{length, refl, arith}
use Rattle.std.proofs.lemmas.Option.{slice_get_read}
use Rattle.s2ix_text_write.specs.Gathered.{gathered_in}
use Rattle.s2ix_text_write.proofs.Gathered.{after_all, after_fault, after_item, after_none}
use Rattle.s2ix_text_write.proofs.list.gather_lines.Goals as goal

pub loop-item-init : goal.loop-item-init
loop-item-init g c = after_none (gathered_in c.args.block.now)

pub loop-item-preserved : goal.loop-item-preserved
loop-item-preserved g c =
    after_item (gathered_in c.args.block.now) g.A.ListItem.line c.args.items.now c.loop-item.item-index c.item-item.result
    (slice_get_read c.args.items.now (length c.args.items.now) c.loop-item.item-index c.item-item.result refl (omega arith) c.item-item.is)
    c.loop-item.invariant c.in_ok-write_line.ensures

pub returns-in_err-write_line : goal.returns-in_err-write_line
returns-in_err-write_line g c =
    after_fault (gathered_in c.args.block.now) _ g.A.ListItem.line c.args.items.now c.loop-item.item-index c.item-item.result
    c.from_residual.result c.from_residual.ensures.0
    (slice_get_read c.args.items.now (length c.args.items.now) c.loop-item.item-index c.item-item.result refl (omega arith) c.item-item.is)
    c.loop-item.invariant c.in_err-write_line.ensures

pub returns : goal.returns
returns g c =
    after_all (gathered_in c.args.block.now) g.A.ListItem.line c.args.items.now c.loop-item.item-index (omega arith) c.loop-item.invariant
