-- A token is canonical when printing its cell gives it back.
use Rattle.std.proofs.Common.{None, sym, ◌∙◌}
use Rattle.s2ix_text_parts.proofs.Numerals.{cell_from_spelled, cell_when}
use Rattle.s2ix_text_parts.proofs.written.cell_written.Goals as goal

pub returns-in_err-cell : goal.returns-in_err-cell
returns-in_err-cell c =
    rw c.from_residual.ensures
    (sym (cell_from_spelled c.args.text.now None (sym c.from_token.ensures.cell ∙ sym c.ok.ensures.value ∙ c.in_err-cell.was)))

pub returns-then-eq : goal.returns-then-eq
returns-then-eq c =
    sym (cell_when c.args.text.now c.as_bytes.result.now c.in_ok-cell.cell
    (sym c.from_token.ensures.cell ∙ sym c.ok.ensures.value ∙ c.in_ok-cell.was) (c.as_bytes.ensures ∙ c.token.ensures) _
    (sym c.if-eq.true ∙ c.eq.ensures))

pub returns-else-eq : goal.returns-else-eq
returns-else-eq c =
    sym (cell_when c.args.text.now c.as_bytes.result.now c.in_ok-cell.cell
    (sym c.from_token.ensures.cell ∙ sym c.ok.ensures.value ∙ c.in_ok-cell.was) (c.as_bytes.ensures ∙ c.token.ensures) _
    (sym c.if-eq.false ∙ c.eq.ensures))
