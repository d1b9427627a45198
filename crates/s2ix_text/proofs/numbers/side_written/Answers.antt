use Rattle.std.proofs.Common.{arith, sym, ◌∙◌}
use Rattle.s2ix_text.proofs.NumberTexts.{no_side, side_above, side_from_number, side_within}
use Rattle.s2ix_text.proofs.numbers.side_written.Goals as goal

pub returns-in_err-count : goal.returns-in_err-count
returns-in_err-count c =
    rw c.from_residual.ensures (sym (no_side c.args.greatest c.ranges.greatest.fits c.args.text.now c.in_err-count.ensures.none))

pub returns-then-count-greatest : goal.returns-then-count-greatest
returns-then-count-greatest c =
    sym (side_from_number c.args.greatest c.args.text.now c.in_ok-count.count c.in_ok-count.ensures.some
    ∙ side_within c.args.greatest c.in_ok-count.count (omega arith))

pub returns-else-count-greatest : goal.returns-else-count-greatest
returns-else-count-greatest c =
    sym (side_from_number c.args.greatest c.args.text.now c.in_ok-count.count c.in_ok-count.ensures.some
    ∙ side_above c.args.greatest c.in_ok-count.count (omega arith))
