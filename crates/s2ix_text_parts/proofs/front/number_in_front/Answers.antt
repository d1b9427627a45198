-- The digits have no leading zero; if they have one, no number stands there.
use Rattle.std.proofs.Common.{◌+◌, arith}
use Rattle.std.proofs.lemmas.List.{take_rest}
use Rattle.s2ix_text_parts.proofs.Fronts.{decimal_fits, number_of_front}
use Rattle.s2ix_text_parts.proofs.NoFronts.{number_is_read}
use Rattle.s2ix_text_parts.proofs.front.number_in_front.Goals.{else-len-gt1-via-then-len-gt1+else-text-eq48, else-len-gt1-via-else-len-gt1, then-len-eq0-via-then-len-eq0, then-len-eq0-via-else-len-eq0+then-text-len}
use Rattle.s2ix_text_parts.proofs.front.number_in_front.Goals as goal

pub returns-then-len-eq0-clause-none : goal.returns-then-len-eq0-clause-none
returns-then-len-eq0-clause-none c =
    let pass = c.decimal_digits-number in
    λ long other number rest small is.
    let read =
    number_is_read c.args.text.now rest pass.result.1 c.args.end number is small other pass.ensures.at_most (omega arith)
    pass.ensures.digits pass.ensures.stop in
    elim c.then-len-eq0.branch [
      | then-len-eq0-via-then-len-eq0 w ↦ omega (arith, w.if-len-eq0.true, read.some)
      | then-len-eq0-via-else-len-eq0+then-text-len w ↦ w.if-text-len.true read.end_byte
    ]

pub returns-then-text-eq48-clause-none : goal.returns-then-text-eq48-clause-none
returns-then-text-eq48-clause-none c =
    let pass = c.decimal_digits-number in
    λ long other number rest small is.
    (number_is_read c.args.text.now rest pass.result.1 c.args.end number is small other pass.ensures.at_most (omega arith)
    pass.ensures.digits pass.ensures.stop).first (omega (arith, c.if-len-gt1.true)) c.if-text-eq48.true

pub returns-clause-number : goal.returns-clause-number
returns-clause-number c =
    let read = c.decimal_digits-number in
    rw (take_rest c.args.text.now (read.result.1 + 1))
    (number_of_front c.args.text.now read.result.1 read.result.0 c.args.end (omega arith) read.ensures.at_most (omega arith)
    read.ensures.digits read.ensures.value
    (λ zero. elim c.else-len-gt1.branch [
      | else-len-gt1-via-then-len-gt1+else-text-eq48 w ↦ absurd (w.if-text-eq48.false zero)
      | else-len-gt1-via-else-len-gt1 w
          ↦ omega (arith, w.if-len-gt1.false)
    ])
    c.if-text-len.false)

pub returns-clause-small : goal.returns-clause-small
returns-clause-small c =
    let pass = c.decimal_digits-number in
    decimal_fits c.args.text.now pass.result.1 pass.result.0 9 pass.ensures.at_most (omega arith) pass.ensures.digits pass.ensures.value
