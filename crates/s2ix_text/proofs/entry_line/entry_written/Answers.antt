-- The parts are read one after the other.
use Rattle.std.proofs.Common.{None, Some, refl, sym, ◌∙◌}
use Rattle.s2ix_text.proofs.EntryTexts.{entry_by, entry_unless}
use Rattle.s2ix_text.proofs.entry_line.entry_written.Goals as goal

pub returns-in_default : goal.returns-in_default
returns-in_default c = sym (entry_unless c.args.greatest c.args.line.now c.in_default.ensures.none)

pub returns-in_default-cell_written : goal.returns-in_default-cell_written
returns-in_default-cell_written c =
    sym (entry_by c.args.greatest c.args.line.now c.in-Some.token.now c.in-Some.label.now c.in-Some.before.now c.in-Some.after.now None _ _ _
    c.in-Some.ensures.some c.in-Some.ensures.parts
    (sym c.cell_written.ensures ∙ c.in_default-cell_written.is) refl refl refl)

pub returns-in_default-label_written : goal.returns-in_default-label_written
returns-in_default-label_written c =
    sym (entry_by c.args.greatest c.args.line.now c.in-Some.token.now c.in-Some.label.now c.in-Some.before.now c.in-Some.after.now
    (Some c.in-Some-cell_written.cell) None _ _ c.in-Some.ensures.some c.in-Some.ensures.parts
    (sym c.cell_written.ensures ∙ c.in-Some-cell_written.is) (sym c.label_written.ensures ∙ c.in_default-label_written.is) refl refl)

pub returns-in_default-side_written : goal.returns-in_default-side_written
returns-in_default-side_written c =
    sym (entry_by c.args.greatest c.args.line.now c.in-Some.token.now c.in-Some.label.now c.in-Some.before.now c.in-Some.after.now
    (Some c.in-Some-cell_written.cell) (Some c.in-Some-label_written.label) None _ c.in-Some.ensures.some c.in-Some.ensures.parts
    (sym c.cell_written.ensures ∙ c.in-Some-cell_written.is) (sym c.label_written.ensures ∙ c.in-Some-label_written.is)
    (sym c.side_written.ensures ∙ c.in_default-side_written.is) refl)

pub returns-in_default-side_written-2 : goal.returns-in_default-side_written-2
returns-in_default-side_written-2 c =
    sym (entry_by c.args.greatest c.args.line.now c.in-Some.token.now c.in-Some.label.now c.in-Some.before.now c.in-Some.after.now
    (Some c.in-Some-cell_written.cell) (Some c.in-Some-label_written.label) (Some c.in-Some-side_written.before) None c.in-Some.ensures.some
    c.in-Some.ensures.parts
    (sym c.cell_written.ensures ∙ c.in-Some-cell_written.is) (sym c.label_written.ensures ∙ c.in-Some-label_written.is)
    (sym c.side_written.ensures ∙ c.in-Some-side_written.is) (sym c.side_written-2.ensures ∙ c.in_default-side_written-2.is))

pub returns : goal.returns
returns c =
    sym (entry_by c.args.greatest c.args.line.now c.in-Some.token.now c.in-Some.label.now c.in-Some.before.now c.in-Some.after.now
    (Some c.in-Some-cell_written.cell) (Some c.in-Some-label_written.label) (Some c.in-Some-side_written.before)
    (Some c.in-Some-side_written-2.after) c.in-Some.ensures.some c.in-Some.ensures.parts
    (sym c.cell_written.ensures ∙ c.in-Some-cell_written.is) (sym c.label_written.ensures ∙ c.in-Some-label_written.is)
    (sym c.side_written.ensures ∙ c.in-Some-side_written.is) (sym c.side_written-2.ensures ∙ c.in-Some-side_written-2.is))
