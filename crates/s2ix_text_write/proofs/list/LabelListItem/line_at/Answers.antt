-- The line feed stands after the number.
use Rattle.s2ix_text_write.proofs.Placed.{label_placed}
use Rattle.s2ix_text_write.proofs.list.LabelListItem.line_at.Goals as goal

pub returns-clause-line : goal.returns-clause-line
returns-clause-line c = label_placed c.args.self _ _ _ _ c.get.ensures c.number_at-place.ensures.number c.byte_at.ensures.byte
