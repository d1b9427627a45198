use Rattle.std.proofs.Common.{sym, ◌∙◌}
use Rattle.s2ix_text_parts.proofs.Numerals.{label_from_number, no_label}
use Rattle.s2ix_text_parts.proofs.written.label_written.Goals as goal

pub returns-in_err-number_written : goal.returns-in_err-number_written
returns-in_err-number_written c = rw c.from_residual.ensures (sym (no_label c.args.text.now c.in_err-number_written.ensures.none))

pub returns : goal.returns
returns c = c.new.ensures.label ∙ sym (label_from_number c.args.text.now c.in_ok-number_written.field-0 c.in_ok-number_written.ensures.some)
