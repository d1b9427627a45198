-- A third part that is cut again makes four parts or more.
use Rattle.std.proofs.Common.{◌∷◌, sym, ap, ◌∙◌}
use Rattle.s2ix_text_parts.proofs.Pieces.{not_three, some_value}
use Rattle.s2ix_text_parts.proofs.cuts.three_parts.Goals as goal

pub returns-then-is_some-clause-none : goal.returns-then-is_some-clause-none
returns-then-is_some-clause-none c =
    let cut = some_value c.cut_part-3.result _ (sym c.is_some.ensures ∙ c.if-is_some.true) c.cut_part-3.ensures.part in
    not_three c.args.line.now c.in_ok-second.third.now c.in_ok-first.first.now c.in_ok-second.second.now cut.0.0.now cut.0.1.now
    (c.in_ok-first.ensures.part ∙ ap (λ ps. c.in_ok-first.first.now ∷ ps) c.in_ok-second.ensures.part) cut.1
