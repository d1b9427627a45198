-- A number is a count when it is neither 0 nor too large.
use Rattle.std.proofs.Common.{arith, sym, ◌∙◌}
use Rattle.s2ix_text_parts.proofs.Numerals.{count_from_number, count_outside, count_within, no_count}
use Rattle.s2ix_text_parts.proofs.written.count_written.Goals as goal

pub returns-in_err-count : goal.returns-in_err-count
returns-in_err-count c =
    rw c.from_residual.ensures (sym (no_count c.args.greatest c.ranges.greatest.fits c.args.text.now c.in_err-count.ensures.none))

pub returns-then-count-eq0 : goal.returns-then-count-eq0
returns-then-count-eq0 c =
    sym (count_from_number c.args.greatest c.args.text.now c.in_ok-count.count c.in_ok-count.ensures.some
    ∙ count_outside c.args.greatest c.in_ok-count.count (λ some. omega (arith, some, c.then-count-eq0.either)))

pub returns : goal.returns
returns c =
    sym (count_from_number c.args.greatest c.args.text.now c.in_ok-count.count c.in_ok-count.ensures.some
    ∙ count_within c.args.greatest c.in_ok-count.count (omega arith) (omega arith))
