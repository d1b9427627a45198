use Rattle.std.proofs.Common.{arith, refl}
use Rattle.s2id_core.proofs.Printing.{high_of_byte, low_of_byte, sixteen_digits_by, two_digits_more}
use Rattle.s2id_core.proofs.hexadecimal.sixteen_digits.Goals as goal

pub loop-pair-preserved : goal.loop-pair-preserved
loop-pair-preserved c =
    let l = c.loop-pair in
    two_digits_more c.args.number l.pair _ _ l.digits (omega arith) l.invariant.0
    (high_of_byte c.args.number l.pair _ _ (omega arith) refl c.high_digit.ensures)
    (low_of_byte c.args.number l.pair _ _ (omega arith) refl c.low_digit.ensures)
    l.invariant.1

pub returns : goal.returns
returns c =
    let l = c.loop-pair in sixteen_digits_by c.args.number l.digits l.invariant.0 (λ k h. l.invariant.1 k (omega arith))
