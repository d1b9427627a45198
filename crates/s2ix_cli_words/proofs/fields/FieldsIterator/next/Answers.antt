use Rattle.std.proofs.Common.{◌≡◌, [], ap, sym, ◌∙◌}
use Rattle.std.proofs.lemmas.Bool.{eqb-true}
use Rattle.s2ix_cli_words.specs.Fields.{fields_left, fields_of}
use Rattle.s2ix_cli_words.proofs.PlainFields.{fields_of-nothing}
use Rattle.s2ix_cli_words.proofs.fields.FieldsIterator.next.Goals as goal

pub returns-then-is_empty-clause-steps : goal.returns-then-is_empty-clause-steps
returns-then-is_empty-clause-steps c =
    let none : fields_of c.self.inside.text.now ≡ [] =
    sym c.after_blank-text.ensures
    ∙ fields_of-nothing c.after_blank-text.result.now (eqb-true _ _ (sym c.is_empty.ensures ∙ c.if-is_empty.true)) in
    let left = ap (fields_left c.self.inside.text.now) c.in_default.is ∙ none in
    (sym c.self.view_is ∙ left, left)
