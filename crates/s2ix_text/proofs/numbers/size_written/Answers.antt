use Rattle.std.proofs.Common.{arith, sym, ◌∙◌}
use Rattle.s2ix_text.proofs.NumberTexts.{no_size, size_above, size_from_number, size_within, size_zero}
use Rattle.s2ix_text.proofs.numbers.size_written.Goals as goal

pub returns-in_err-size : goal.returns-in_err-size
returns-in_err-size c = rw c.from_residual.ensures (sym (no_size c.args.text.now c.in_err-size.ensures.none))

pub returns-then-size-lt-FEWEST_ENTRIES : goal.returns-then-size-lt-FEWEST_ENTRIES
returns-then-size-lt-FEWEST_ENTRIES c =
    sym (size_from_number c.args.text.now c.in_ok-size.size c.in_ok-size.ensures.some ∙ size_zero c.in_ok-size.size (omega arith))

pub returns-then-size-le-MOST_ENTRIES : goal.returns-then-size-le-MOST_ENTRIES
returns-then-size-le-MOST_ENTRIES c =
    sym (size_from_number c.args.text.now c.in_ok-size.size c.in_ok-size.ensures.some
    ∙ size_within c.in_ok-size.size (omega arith) (omega arith))

pub returns-else-size-le-MOST_ENTRIES : goal.returns-else-size-le-MOST_ENTRIES
returns-else-size-le-MOST_ENTRIES c =
    sym (size_from_number c.args.text.now c.in_ok-size.size c.in_ok-size.ensures.some ∙ size_above c.in_ok-size.size (omega arith))
