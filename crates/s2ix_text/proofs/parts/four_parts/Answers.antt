-- A fourth part that is cut again makes five parts or more.
use Rattle.std.proofs.Common.{◌≡◌, ℕ, List, ◌∷◌, [], sym, ap, ◌∙◌}
use Rattle.s2ix_text_parts.specs.Lines.{parts_of}
use Rattle.s2ix_text_parts.proofs.PartCounts.{four_from_parts, none_clause, not_four}
use Rattle.s2ix_text_parts.proofs.Pieces.{some_value}
use Rattle.s2ix_text_parts.proofs.Rests.{some_test}
use Rattle.s2ix_text.proofs.parts.four_parts.Goals as goal

pub returns-then-is_some-clause-none : goal.returns-then-is_some-clause-none
returns-then-is_some-clause-none c =
    let cut = some_value c.cut_part-4.result _ (sym c.is_some.ensures ∙ c.if-is_some.true) c.cut_part-4.ensures.part in
    not_four c.args.line.now c.in_ok-third.fourth.now cut.0.0.now cut.0.1.now c.in_ok-first.first.now c.in_ok-second.second.now
    c.in_ok-third.third.now
    (c.in_ok-first.ensures.part
    ∙ ap (λ (ps : List (List ℕ)). c.in_ok-first.first.now ∷ ps)
    (c.in_ok-second.ensures.part ∙ ap (λ (ps : List (List ℕ)). c.in_ok-second.second.now ∷ ps) c.in_ok-third.ensures.part)) cut.1

pub returns-clause-some : goal.returns-clause-some
returns-clause-some c =
    let last = none_clause c.cut_part-4.result _ (sym c.is_some.ensures ∙ c.if-is_some.false) c.cut_part-4.ensures.none in
    let parts : parts_of c.args.line.now
    ≡ c.in_ok-first.first.now ∷ c.in_ok-second.second.now ∷ c.in_ok-third.third.now ∷ c.in_ok-third.fourth.now ∷ [] =
    c.in_ok-first.ensures.part
    ∙ ap (λ (ps : List (List ℕ)). c.in_ok-first.first.now ∷ ps)
    (c.in_ok-second.ensures.part ∙ ap (λ (ps : List (List ℕ)). c.in_ok-second.second.now ∷ ps)
    (c.in_ok-third.ensures.part ∙ ap (λ (ps : List (List ℕ)). c.in_ok-third.third.now ∷ ps) last)) in
    four_from_parts c.args.line.now c.in_ok-first.first.now c.in_ok-second.second.now c.in_ok-third.third.now c.in_ok-third.fourth.now parts
    (some_test c.in_ok-first.first.now c.is_empty.result c.is_empty.ensures c.if-is_empty.false)
    (some_test c.in_ok-second.second.now c.is_empty-else-is_empty.result c.is_empty-else-is_empty.ensures c.if-is_empty-2.false)
    (some_test c.in_ok-third.third.now c.is_empty-else-is_empty-2.result c.is_empty-else-is_empty-2.ensures c.if-is_empty-3.false)
    (some_test c.in_ok-third.fourth.now c.is_empty-else-is_empty-3.result c.is_empty-else-is_empty-3.ensures c.if-is_empty-4.false)
