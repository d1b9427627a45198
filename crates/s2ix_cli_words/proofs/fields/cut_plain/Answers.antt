-- What ends the plain bytes is a blank, or the end of the text.
use Rattle.std.proofs.Common.{◌≡◌, ◌<◌, ◌∷◌, ap, arith, drop, get_or, length, sym, true, ◌∙◌}
use Rattle.std.proofs.lemmas.Bool.{not-false}
use Rattle.s2ix_cli_words.specs.Fields.{fields_of, is_blank}
use Rattle.s2ix_cli_words.proofs.PlainFields.{fields_of-cut}
use Rattle.s2ix_cli_words.proofs.fields.cut_plain.Goals.{then-end-text, else-end-text}
use Rattle.s2ix_cli_words.proofs.fields.cut_plain.Goals as goal

pub returns : goal.returns
returns c =
    let text = c.args.text.now in
    let end = c.plain_len-end.result in
    let ends : end < length text → is_blank (get_or text end 0) ≡ true = λ more. elim c.if-end-text.branch [
      | then-end-text w ↦ sym w.is_blank.ensures ∙ not-false w.is_blank.result (sym w.value-is ∙ c.if-not-is_blank.false)
      | else-end-text w ↦ absurd (omega arith)
    ] in
    fields_of-cut text end (omega arith) c.plain_len-end.ensures.within c.plain_len-end.ensures.plain ends
    ∙ ap (λ field. field ∷ fields_of (drop end text)) (sym c.split_at.ensures.front)
    ∙ ap (λ rest. c.split_at.result.0.now ∷ fields_of rest) (sym c.split_at.ensures.back)
