-- A second part that is cut again makes three parts or more.
use Rattle.std.proofs.Common.{sym, ◌∙◌}
use Rattle.s2ix_text_parts.proofs.PartCounts.{not_two}
use Rattle.s2ix_text_parts.proofs.Pieces.{some_value}
use Rattle.s2ix_text.proofs.parts.two_parts.Goals as goal

pub returns-then-is_some-clause-none : goal.returns-then-is_some-clause-none
returns-then-is_some-clause-none c =
    let cut = some_value c.cut_part-2.result _ (sym c.is_some.ensures ∙ c.if-is_some.true) c.cut_part-2.ensures.part in
    not_two c.args.line.now c.in_ok-first.second.now cut.0.0.now cut.0.1.now c.in_ok-first.first.now c.in_ok-first.ensures.part cut.1
