-- The text is what is put together, with the range in its place.
use Rattle.std.proofs.Common.{◌≡◌, ◌++◌, codes, string_bytes, IfOk, ap, ◌∙◌, rules}
use Rattle.std.specs.Prelude.{decimal}
use Rattle.std.proofs.lemmas.Result.{IfOk-weaker}
use Rattle.clap.specs.Words.{Text}
use Rattle.s2ix_cli_words.proofs.limits.limit_help.Goals as goal

pub returns : goal.returns
returns c =
    let around : Text → Text = λ range. c.args.what.now ++ (codes ": " ++ (range ++ (codes " [default: " ++ (decimal c.args.greatest ++ codes "]")))) in
    let made : IfOk c.format.result (λ text. string_bytes text ≡ around (string_bytes c.in_ok-range.range)) = search rules in
    IfOk-weaker c.format.result _ _ (λ text is. is ∙ ap around c.in_ok-range.ensures.text) made
