-- The parts stand one after the other.
use Rattle.std.proofs.Common.{◌+◌, ◌++◌, take, ap, ◌∙◌, arith}
use Rattle.std.proofs.lemmas.Slice.{take-put_mid}
use Rattle.s2ix_text_write.proofs.Placed.{end_placed}
use Rattle.s2ix_text_write.proofs.places.end_at.Goals as goal

pub returns-clause-line : goal.returns-clause-line
returns-clause-line c =
    end_placed c.args.count _ _ _ _
    (take-put_mid c.args.place _ c.args.room.now c.copy_from_slice.new.self (c.args.place + 4) (omega (arith, c.copy_from_slice.ensures.len)) (omega arith)
    ∙ ap (λ t. take c.args.place c.args.room.now ++ t) c.copy_from_slice.ensures.after)
    c.number_at-place.ensures.number c.byte_at.ensures.byte
