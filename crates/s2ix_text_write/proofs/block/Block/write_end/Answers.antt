-- The last line comes after what is gathered once there is room, and all of it is put.
use Rattle.std.proofs.Common.{List, ℕ, Ok, Err, subst}
use Rattle.s2ix_text_parts.specs.Puts.{Writes}
use Rattle.s2ix_text_write.specs.Lists.{end_of_list}
use Rattle.s2ix_text_parts.proofs.Writing.{Writes-cut, Writes-fault}
use Rattle.s2ix_text_write.proofs.Gathered.{gathered_last}
use Rattle.s2ix_text_write.proofs.block.Block.write_end.Goals as goal

pub returns-in_err-make_room-clause-text : goal.returns-in_err-make_room-clause-text
returns-in_err-make_room-clause-text g c =
    Writes-cut _ (end_of_list c.args.count) c.from_residual.ensures.0 c.in_err-make_room.ensures.failed

pub returns-in_err-put-clause-text : goal.returns-in_err-put-clause-text
returns-in_err-put-clause-text g c =
    Writes-fault _ c.from_residual-in_err-put.ensures.0
    (gathered_last (end_of_list c.args.count) c.in_ok-make_room.ensures.gathered
    (subst (λ (text : List ℕ). Writes {A = Unit {0}} g.K.Sink c.make_room.new.sink c.put.new.sink (Err (record {})) text)
    c.end_at-self.ensures.line c.in_err-put.ensures))

pub returns-clause-text : goal.returns-clause-text
returns-clause-text g c =
    gathered_last (end_of_list c.args.count) c.in_ok-make_room.ensures.gathered
    (subst (λ (text : List ℕ). Writes {A = Unit {0}} g.K.Sink c.make_room.new.sink c.put.new.sink (Ok tt) text) c.end_at-self.ensures.line
    c.in_ok-put.ensures)
