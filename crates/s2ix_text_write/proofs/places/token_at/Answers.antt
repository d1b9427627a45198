-- Of the sixteen digits those before the last zeros are the token.
use Rattle.std.proofs.Common.{ap, ◌∙◌, arith}
use Rattle.s2id_core.specs.CellId.{raw_of}
use Rattle.s2id_core.specs.Token.{sixteen_digits}
use Rattle.s2ix_text_write.proofs.Placed.{token_placed}
use Rattle.s2ix_text_write.proofs.places.token_at.Goals as goal

pub returns-clause-token : goal.returns-clause-token
returns-clause-token c =
    token_placed c.args.place c.raw-raw.result (raw_of c.args.cell) c.copy_from_slice.new.self c.args.room.now _ c.args.cell.valid
    c.raw-raw.ensures (c.copy_from_slice.ensures.after ∙ c.sixteen_digits.ensures ∙ ap sixteen_digits c.raw-raw.ensures) (omega arith)
