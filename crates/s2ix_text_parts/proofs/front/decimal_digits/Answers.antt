-- One digit more keeps what the digits write, and it fits.
use Rattle.std.proofs.Common.{◌≡◌, ap, arith, get_or, take, ◌∙◌}
use Rattle.std.specs.Str.Parse.{digits_value}
use Rattle.s2ix_text_parts.proofs.Fronts.{decimal_fits, decimal_more, decimal_when}
use Rattle.s2ix_text_parts.proofs.front.decimal_digits.Goals as goal

pub overflow_mul-number : goal.overflow_mul-number
overflow_mul-number c =
    let l = c.loop-place in
    let fits = decimal_fits c.args.text.now l.place l.number 8 (omega arith) (omega arith) l.invariant.0 l.invariant.1 in
    omega (arith, fits)

pub overflow_add-number : goal.overflow_add-number
overflow_add-number c =
    let l = c.loop-place in
    let fits = decimal_fits c.args.text.now l.place l.number 8 (omega arith) (omega arith) l.invariant.0 l.invariant.1 in
    omega (arith, fits)

pub loop-place-preserved : goal.loop-place-preserved
loop-place-preserved c =
    let l = c.loop-place in
    decimal_more c.args.text.now l.place l.number c.decimal_worth-digit.result (omega arith) l.invariant.0 l.invariant.1 (omega arith)
    (decimal_when (get_or c.args.text.now l.place 0) c.decimal_worth-digit.result c.decimal_worth-digit.ensures.digit
    c.decimal_worth-digit.ensures.other (omega arith))

pub returns-clause-value : goal.returns-clause-value
returns-clause-value c =
    let whole : c.loop-place.place ≡ 9 = omega arith in
    c.loop-place.invariant.1 ∙ ap (λ n. digits_value 10 (take n c.args.text.now)) whole
