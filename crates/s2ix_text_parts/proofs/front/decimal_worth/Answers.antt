use Rattle.std.proofs.Common.{arith}
use Rattle.s2ix_text_parts.proofs.Fronts.{decimal_of_less, other_of_less}
use Rattle.s2ix_text_parts.proofs.front.decimal_worth.Goals as goal

pub returns : goal.returns
returns c = record {
  digit = decimal_of_less c.args.byte _ (λ from. omega (arith, from));
  other = other_of_less c.args.byte _ (omega arith) (λ from. omega (arith, from)) (λ low. omega (arith, low));
}
