-- A number is canonical when printing it gives the text back.
use Rattle.std.proofs.Common.{arith, sym, ◌∙◌}
use Rattle.s2ix_text_parts.proofs.Numerals.{at_no_ok, at_ok, not_from_digits, not_parsed, not_utf8, number_from_digits}
use Rattle.s2ix_text_parts.proofs.written.number_written.Goals as goal

pub returns-in_err-ok-clause-none : goal.returns-in_err-ok-clause-none
returns-in_err-ok-clause-none c =
    rw c.from_residual.ensures
    (λ n small is. not_utf8 c.args.text.now n
    (at_no_ok c.from_utf8.result _ _ _ (sym c.ok.ensures.value ∙ c.in_err-ok.was) c.from_utf8.ensures.cases) small is)

pub returns-in_err-number-clause-none : goal.returns-in_err-number-clause-none
returns-in_err-number-clause-none c =
    let text = (at_ok c.from_utf8.result _ _ c.in_ok-ok.field-0 (sym c.ok.ensures.value ∙ c.in_ok-ok.was) c.from_utf8.ensures.cases).0 in
    rw c.from_residual-in_err-number.ensures
    (λ n small is. not_parsed c.args.text.now c.in_ok-ok.field-0.now n c.parse.result text c.parse.ensures.value.0
    (sym c.ok-2.ensures.value ∙ c.in_err-number.was) small is)

pub returns-then-eq-clause-some : goal.returns-then-eq-clause-some
returns-then-eq-clause-some c =
    number_from_digits c.args.text.now c.as_bytes.result.now c.in_ok-number.number c.eq.result (omega arith)
    (c.as_bytes.ensures.value ∙ c.format.ensures.text) c.eq.ensures c.if-eq.true

pub returns-else-eq-clause-none : goal.returns-else-eq-clause-none
returns-else-eq-clause-none c =
    let text = (at_ok c.from_utf8.result _ _ c.in_ok-ok.field-0 (sym c.ok.ensures.value ∙ c.in_ok-ok.was) c.from_utf8.ensures.cases).0 in
    λ n small is. not_from_digits c.args.text.now c.in_ok-ok.field-0.now c.as_bytes.result.now c.in_ok-number.number n c.parse.result
    c.eq.result text c.parse.ensures.value.0 (sym c.ok-2.ensures.value ∙ c.in_ok-number.was)
    (c.as_bytes.ensures.value ∙ c.format.ensures.text) c.eq.ensures c.if-eq.false small is
