-- The parts are read one after the other.
use Rattle.std.proofs.Common.{None, Some, refl, sym, ◌∙◌}
use Rattle.s2ix_text.proofs.PairTexts.{held_by, held_unless}
use Rattle.s2ix_text.proofs.pair_line.held_written.Goals as goal

pub returns-in_default : goal.returns-in_default
returns-in_default c = sym (held_unless c.args.greatest c.args.line.now c.in_default.ensures.none)

pub returns-in_default-cell_written : goal.returns-in_default-cell_written
returns-in_default-cell_written c =
    sym (held_by c.args.greatest c.args.line.now c.in-Some.token.now c.in-Some.label.now c.in-Some.count.now None _ _ c.in-Some.ensures.some
    c.in-Some.ensures.parts (sym c.cell_written.ensures ∙ c.in_default-cell_written.is) refl refl)

pub returns-in_default-label_written : goal.returns-in_default-label_written
returns-in_default-label_written c =
    sym (held_by c.args.greatest c.args.line.now c.in-Some.token.now c.in-Some.label.now c.in-Some.count.now (Some c.in-Some-cell_written.cell)
    None _ c.in-Some.ensures.some c.in-Some.ensures.parts (sym c.cell_written.ensures ∙ c.in-Some-cell_written.is)
    (sym c.label_written.ensures ∙ c.in_default-label_written.is) refl)

pub returns-in_default-count_written : goal.returns-in_default-count_written
returns-in_default-count_written c =
    sym (held_by c.args.greatest c.args.line.now c.in-Some.token.now c.in-Some.label.now c.in-Some.count.now (Some c.in-Some-cell_written.cell)
    (Some c.in-Some-label_written.label) None c.in-Some.ensures.some c.in-Some.ensures.parts
    (sym c.cell_written.ensures ∙ c.in-Some-cell_written.is) (sym c.label_written.ensures ∙ c.in-Some-label_written.is)
    (sym c.count_written.ensures ∙ c.in_default-count_written.is))

pub returns : goal.returns
returns c =
    sym (held_by c.args.greatest c.args.line.now c.in-Some.token.now c.in-Some.label.now c.in-Some.count.now (Some c.in-Some-cell_written.cell)
    (Some c.in-Some-label_written.label) (Some c.in-Some-count_written.count) c.in-Some.ensures.some c.in-Some.ensures.parts
    (sym c.cell_written.ensures ∙ c.in-Some-cell_written.is) (sym c.label_written.ensures ∙ c.in-Some-label_written.is)
    (sym c.count_written.ensures ∙ c.in-Some-count_written.is))
