-- The digits spell the cell, they are of lower case, and the last is no zero; if they don't, no token stands there.
use Rattle.std.proofs.Common.{◌+◌, arith, subst, sym}
use Rattle.std.proofs.lemmas.Bool.{false≢true}
use Rattle.std.proofs.lemmas.List.{take_rest}
use Rattle.s2id_core.specs.CellId.{raw_of}
use Rattle.s2ix_text_parts.proofs.Fronts.{token_of_front}
use Rattle.s2id_core.specs.Cell.{IsCellNumber}
use Rattle.s2ix_text_parts.proofs.NoFronts.{token_is_read}
use Rattle.s2ix_text_parts.proofs.front.token_in_front.Goals.{then-len-eq0-via-then-len-eq0, then-len-eq0-via-else-len-eq0+then-text-len-ne32, then-len-eq0-via-else-len-eq0+else-text-len-ne32+then-text-len-eq48}
use Rattle.s2ix_text_parts.proofs.front.token_in_front.Goals as goal

pub returns-then-len-eq0-clause-none : goal.returns-then-len-eq0-clause-none
returns-then-len-eq0-clause-none c =
    let pass = c.lower_digits-number in
    λ long cell rest is.
    let read =
    token_is_read c.args.text.now rest pass.result.1 pass.result.0 (raw_of cell) is cell.valid pass.ensures.at_most (omega arith)
    pass.ensures.digits pass.ensures.value pass.ensures.stop in
    elim c.then-len-eq0.branch [
      | then-len-eq0-via-then-len-eq0 w ↦ omega (arith, w.if-len-eq0.true, read.some)
      | then-len-eq0-via-else-len-eq0+then-text-len-ne32 w ↦ w.if-text-len-ne32.true read.space
      | then-len-eq0-via-else-len-eq0+else-text-len-ne32+then-text-len-eq48 w ↦ read.last w.if-text-len-eq48.true
    ]

pub returns-in_err-cell-clause-none : goal.returns-in_err-cell-clause-none
returns-in_err-cell-clause-none c =
    let pass = c.lower_digits-number in
    rw c.from_residual.ensures
    (λ long cell rest is.
    let read =
    token_is_read c.args.text.now rest pass.result.1 pass.result.0 (raw_of cell) is cell.valid pass.ensures.at_most (omega arith)
    pass.ensures.digits pass.ensures.value pass.ensures.stop in
    absurd (false≢true (c.in_err-cell.ensures.found.1 (subst IsCellNumber (sym read.shifted) cell.valid))))

pub returns-clause-cell : goal.returns-clause-cell
returns-clause-cell c =
    let read = c.lower_digits-number in
    rw (take_rest c.args.text.now (read.result.1 + 1))
    (token_of_front c.args.text.now read.result.1 read.result.0 (raw_of c.in_ok-cell.cell) (omega arith) read.ensures.at_most (omega arith)
    read.ensures.digits read.ensures.value
    c.in_ok-cell.ensures.number c.in_ok-cell.cell.valid c.if-text-len-eq48.false c.if-text-len-ne32.false)
