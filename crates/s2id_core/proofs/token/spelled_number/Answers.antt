use Rattle.std.proofs.Common.{◌≡◌, ◌+◌, ◌*◌, ◌<◌, length, get_or, arith, ap, ap₂, ◌∙◌, sym, subst}
use Rattle.std.specs.Char.{digit_value}
use Rattle.std.specs.Str.Parse.{AllDigits, digits_value}
use Rattle.std.proofs.lemmas.Int.Digits.{digits_more, digits_value_more}
use Rattle.std.proofs.lemmas.List.{take_all}
use Rattle.s2id_core.proofs.Digits.{digit_fits, shifted_value}
use Rattle.s2id_core.proofs.token.spelled_number.Goals as goal

pub overflow_mul-number : goal.overflow_mul-number
overflow_mul-number c =
    let l = c.loop-place in
    let fits = digit_fits c.args.text.now l.place l.number 0 (omega arith) (omega arith) l.invariant.0 l.invariant.1 (omega arith) in
    omega arith

pub overflow_add-number : goal.overflow_add-number
overflow_add-number c =
    let l = c.loop-place in
    let fits = digit_fits c.args.text.now l.place l.number c.worth-digit.result (omega arith) (omega arith) l.invariant.0 l.invariant.1 (omega arith) in
    omega arith

pub loop-place-preserved : goal.loop-place-preserved
loop-place-preserved c =
    let l = c.loop-place in
    let text = c.args.text.now in
    let within : l.place < length text = omega arith in
    let digit : c.worth-digit.result ≡ digit_value (get_or text l.place 0) = omega arith in
    (digits_more 16 text l.place within l.invariant.0 (omega arith), ap₂ (λ x y. x * 16 + y) l.invariant.1 digit ∙ sym (digits_value_more 16 text l.place within))

pub returns-clause-spelled : goal.returns-clause-spelled
returns-clause-spelled c =
    let l = c.loop-place in
    let text = c.args.text.now in
    let whole = take_all l.place text (omega arith) in
    let all : AllDigits 16 text = subst (λ t. AllDigits 16 t) whole l.invariant.0 in
    let number : l.number ≡ digits_value 16 text = l.invariant.1 ∙ ap (digits_value 16) whole in
    record { some = omega arith; at_most = omega arith; digits = all; value = sym (shifted_value text l.number (omega arith) all number) }
