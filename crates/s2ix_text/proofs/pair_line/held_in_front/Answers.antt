-- The three parts, put together; if one is missing, no line of the common shape stands there.
use Rattle.std.proofs.Common.{arith}
use Rattle.std.proofs.lemmas.Bool.{false≢true}
use Rattle.s2id_core.specs.CellId.{raw_of}
use Rattle.s2ix_bag_pairs.specs.Label.{value_of}
use Rattle.s2ix_text.proofs.FrontReads.{count_is, count_is_due, label_is_due, parts_of_common}
use Rattle.s2ix_text.proofs.PairTexts.{line_of_parts}
use Rattle.s2ix_text.proofs.pair_line.held_in_front.Goals as goal

pub returns-in_err-cell-clause-none : goal.returns-in_err-cell-clause-none
returns-in_err-cell-clause-none c =
    rw c.from_residual.ensures
    (λ h rest common.
    let p = parts_of_common c.args.greatest c.ranges.greatest.fits c.args.text.now rest h common in
    c.in_err-cell.ensures.none common.long h.pair.cell p.0 p.2.token)

pub returns-in_err-label-clause-none : goal.returns-in_err-label-clause-none
returns-in_err-label-clause-none c =
    rw c.from_residual-in_err-label.ensures
    (λ h rest common.
    let is_due =
    label_is_due c.args.greatest c.ranges.greatest.fits c.args.text.now c.in_ok-cell.after.now rest (raw_of c.in_ok-cell.cell) h
    c.in_ok-cell.ensures.cell common in
    c.in_err-label.ensures.none is_due.2 (omega arith) (value_of h.pair.label) is_due.0 common.label is_due.1)

pub returns-in_err-count-clause-none : goal.returns-in_err-count-clause-none
returns-in_err-count-clause-none c =
    rw c.from_residual-in_err-count.ensures
    (λ h rest common.
    let label = c.in_ok-label.ensures.small in
    let is_due =
    count_is_due c.args.greatest c.ranges.greatest.fits c.args.text.now c.in_ok-cell.after.now c.in_ok-label.after.now rest
    (raw_of c.in_ok-cell.cell) c.in_ok-label.label h c.in_ok-cell.ensures.cell c.in_ok-label.ensures.number (omega arith) common in
    let within_limit = common.count in
    c.in_err-count.ensures.none is_due.2 (omega arith) h.count rest (omega arith) is_due.1)

pub returns-in_err-label-2-clause-none : goal.returns-in_err-label-2-clause-none
returns-in_err-label-2-clause-none c =
    rw c.from_residual-in_err-label-2.ensures
    (λ h rest common.
    let label = c.in_ok-label.ensures.small in
    let is_due =
    count_is_due c.args.greatest c.ranges.greatest.fits c.args.text.now c.in_ok-cell.after.now c.in_ok-label.after.now rest
    (raw_of c.in_ok-cell.cell) c.in_ok-label.label h c.in_ok-cell.ensures.cell c.in_ok-label.ensures.number (omega arith) common in
    let within = h.pair.label.in_range in
    absurd (false≢true (c.in_err-label-2.ensures.valid.1 (omega (arith, within, is_due.0)))))

pub returns-then-count-eq0-clause-none : goal.returns-then-count-eq0-clause-none
returns-then-count-eq0-clause-none c =
    λ h rest common.
    let label = c.in_ok-label.ensures.small in
    let count = c.in_ok-count.ensures.small in
    let is =
    count_is c.args.greatest c.ranges.greatest.fits c.args.text.now c.in_ok-cell.after.now c.in_ok-label.after.now c.in_ok-count.after.now rest
    (raw_of c.in_ok-cell.cell) c.in_ok-label.label c.in_ok-count.count h
    c.in_ok-cell.ensures.cell c.in_ok-label.ensures.number (omega arith) c.in_ok-count.ensures.number (omega arith) common in
    omega (arith, is.1, common.some, common.within_limit, c.then-count-eq0.either)

pub returns-clause-line : goal.returns-clause-line
returns-clause-line c =
    line_of_parts c.args.text.now c.in_ok-cell.after.now c.in_ok-label.after.now c.in_ok-count.after.now _ c.in_ok-label.label
    c.in_ok-cell.ensures.cell c.in_ok-label.ensures.number c.in_ok-count.ensures.number c.in_ok-label-2.ensures.value
