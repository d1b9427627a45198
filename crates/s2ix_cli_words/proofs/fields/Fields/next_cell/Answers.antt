use Rattle.std.proofs.Common.{sym, ◌∙◌}
use Rattle.s2id_core.specs.CellId.{raw_of}
use Rattle.s2ix_cli_words.proofs.TokenFields.{fields_left-token}
use Rattle.s2ix_cli_words.proofs.fields.Fields.next_cell.Goals as goal

pub returns-clause-cell : goal.returns-clause-cell
returns-clause-cell c =
    sym c.self.view_is
    ∙ fields_left-token c.self.inside.text.now c.after_blank.result.now c.in_ok-cell.after.now c.self.inside.wide
    (raw_of c.in_ok-cell.cell) (sym c.is_some.ensures ∙ c.if-is_some.false) c.after_blank.ensures c.in_ok-cell.ensures.cell
    c.in_ok-cell.cell.valid
