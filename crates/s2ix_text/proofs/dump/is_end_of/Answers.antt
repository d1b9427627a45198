-- An end line has three parts, `end` and the two numbers.
use Rattle.std.proofs.Common.{arith, true, sym, ap, ◌∙◌}
use Rattle.std.proofs.lemmas.Bool.{and_parts, both_ways, false≢true}
use Rattle.s2ix_text_parts.specs.Lines.{has_parts}
use Rattle.s2ix_text.proofs.PairTexts.{end_has_parts, end_tested}
use Rattle.s2ix_text.proofs.dump.is_end_of.Goals as goal

pub returns-in_default : goal.returns-in_default
returns-in_default c = (
  λ yes_is. absurd (false≢true yes_is),
  λ is. absurd (both_ways (has_parts 3 c.args.line.now) c.in_default.ensures.none
      (ap (has_parts 3) is ∙ end_has_parts c.args.pairs c.args.copies (omega arith) (omega arith))),
)

pub returns-then-same_pairs : goal.returns-then-same_pairs
returns-then-same_pairs c =
    end_tested c.args.line.now c.in-Some.field-0-0.now c.in-Some.pairs_text.now c.in-Some.copies_text.now c.as_bytes.result.now
    c.as_bytes-2.result.now c.args.pairs c.args.copies true c.eq-same_copies.result c.requires c.in-Some.ensures.parts (omega arith)
    (omega arith)
    (sym c.if-same_pairs.true ∙ c.eq-same_pairs.ensures) (c.as_bytes.ensures.value ∙ c.format.ensures.text) c.eq-same_copies.ensures
    (c.as_bytes-2.ensures.value ∙ c.format-2.ensures.text)

pub returns-else-same_pairs : goal.returns-else-same_pairs
returns-else-same_pairs c =
    let tested = end_tested c.args.line.now c.in-Some.field-0-0.now c.in-Some.pairs_text.now c.in-Some.copies_text.now c.as_bytes.result.now
    c.as_bytes-2.result.now c.args.pairs c.args.copies c.eq-same_pairs.result c.eq-same_copies.result c.requires c.in-Some.ensures.parts
    (omega arith) (omega arith)
    c.eq-same_pairs.ensures (c.as_bytes.ensures.value ∙ c.format.ensures.text) c.eq-same_copies.ensures
    (c.as_bytes-2.ensures.value ∙ c.format-2.ensures.text) in (
      λ yes_is. absurd (both_ways c.eq-same_pairs.result c.if-same_pairs.false yes_is),
      λ is. (and_parts c.eq-same_pairs.result c.eq-same_copies.result (tested.1 is)).0,
    )
