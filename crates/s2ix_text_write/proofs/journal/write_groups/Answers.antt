-- At a fault, the groups before went out, and a front of this one.
use Rattle.std.proofs.Common.{length, refl, arith}
use Rattle.std.proofs.lemmas.Option.{slice_get_read}
use Rattle.s2ix_text_write.specs.Journal.{group_text}
use Rattle.s2ix_text_parts.proofs.Writing.{Writes-fault, Writes-item_fault}
use Rattle.s2ix_text_write.proofs.journal.write_groups.Goals as goal

pub returns-in_err-write_group : goal.returns-in_err-write_group
returns-in_err-write_group g c =
    Writes-fault _ c.from_residual.ensures.0
    (Writes-item_fault group_text c.args.changes.now c.loop-change.change-index c.change-item.result
    (slice_get_read c.args.changes.now (length c.args.changes.now) c.loop-change.change-index c.change-item.result refl (omega arith)
    c.change-item.is) c.loop-change.invariant c.in_err-write_group.ensures)
