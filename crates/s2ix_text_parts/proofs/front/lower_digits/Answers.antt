-- One digit more keeps what the digits write, and it fits.
use Rattle.std.proofs.Common.{◌≡◌, All, ap, arith, get_or, subst, take, ◌∙◌}
use Rattle.std.specs.Str.Parse.{digits_value}
use Rattle.s2id_core.specs.Token.{IsLowerHex}
use Rattle.s2ix_text_parts.proofs.Fronts.{lower_fits, lower_more, lower_when}
use Rattle.s2ix_text_parts.proofs.front.lower_digits.Goals as goal

pub overflow_mul-number : goal.overflow_mul-number
overflow_mul-number c =
    let l = c.loop-place in
    let fits = lower_fits c.args.text.now l.place l.number (omega arith) (omega arith) l.invariant.0 l.invariant.1 in
    omega (arith, fits)

pub overflow_add-number : goal.overflow_add-number
overflow_add-number c =
    let l = c.loop-place in
    let fits = lower_fits c.args.text.now l.place l.number (omega arith) (omega arith) l.invariant.0 l.invariant.1 in
    omega (arith, fits)

pub loop-place-preserved : goal.loop-place-preserved
loop-place-preserved c =
    let l = c.loop-place in
    lower_more c.args.text.now l.place l.number c.lower_worth-digit.result (omega arith) l.invariant.0 l.invariant.1
    (lower_when (get_or c.args.text.now l.place 0) c.lower_worth-digit.result c.lower_worth-digit.ensures.digit
    c.lower_worth-digit.ensures.other (omega arith))

pub returns-clause-digits : goal.returns-clause-digits
returns-clause-digits c =
    let whole : c.loop-place.place ≡ 16 = omega arith in
    subst (λ n. All IsLowerHex (take n c.args.text.now)) whole c.loop-place.invariant.0

pub returns-clause-value : goal.returns-clause-value
returns-clause-value c =
    let whole : c.loop-place.place ≡ 16 = omega arith in
    c.loop-place.invariant.1 ∙ ap (λ n. digits_value 16 (take n c.args.text.now)) whole
