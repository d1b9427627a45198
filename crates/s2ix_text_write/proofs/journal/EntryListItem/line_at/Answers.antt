-- The parts stand one after the other.
use Rattle.s2ix_text_write.proofs.Placed.{entry_placed}
use Rattle.s2ix_text_write.proofs.journal.EntryListItem.line_at.Goals as goal

pub returns-clause-line : goal.returns-clause-line
returns-clause-line c =
    entry_placed c.args.self _ _ _ _ _ _ _ _ _ _ c.get.ensures c.token_at-place.ensures.token c.byte_at-place.ensures.byte
    c.number_at-place.ensures.number c.byte_at-place-2.ensures.byte c.number_at-place-2.ensures.number c.byte_at-place-3.ensures.byte
    c.number_at-place-3.ensures.number c.byte_at.ensures.byte
