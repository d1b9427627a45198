-- The line feed stands after the token.
use Rattle.s2ix_text_write.proofs.Placed.{cell_placed}
use Rattle.s2ix_text_write.proofs.list.CellIdListItem.line_at.Goals as goal

pub returns-clause-line : goal.returns-clause-line
returns-clause-line c = cell_placed c.args.self _ _ _ c.token_at-place.ensures.token c.byte_at.ensures.byte
