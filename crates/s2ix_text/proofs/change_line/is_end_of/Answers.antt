-- An end line has two parts, `end` and the number.
use Rattle.std.proofs.Common.{arith, ap, ◌∙◌}
use Rattle.std.proofs.lemmas.Bool.{both_ways, false≢true}
use Rattle.s2ix_text_parts.specs.Lines.{has_parts}
use Rattle.s2ix_text.proofs.ChangeTexts.{end_has_parts, end_tested}
use Rattle.s2ix_text.proofs.change_line.is_end_of.Goals as goal

pub returns-in_default : goal.returns-in_default
returns-in_default c = (
  λ yes_is. absurd (false≢true yes_is),
  λ is. absurd (both_ways (has_parts 2 c.args.line.now) c.in_default.ensures.none
      (ap (has_parts 2) is ∙ end_has_parts c.args.groups (omega arith))),
)

pub returns : goal.returns
returns c =
    end_tested c.args.line.now c.in-Some.field-0-0.now c.in-Some.number.now c.as_bytes.result.now c.args.groups c.eq.result c.requires
    c.in-Some.ensures.parts (omega arith)
    c.eq.ensures (c.as_bytes.ensures.value ∙ c.format.ensures.text)
