use Rattle.std.proofs.Common.{sym, ◌∙◌}
use Rattle.s2ix_cli_words.proofs.ScriptNumbers.{label_spelled-number}
use Rattle.s2ix_cli_words.proofs.numbers.label_spelled.Goals as goal

pub returns : goal.returns
returns c =
    c.new.ensures.label
    ∙ label_spelled-number c.args.text.now c.in_ok-value.value c.in_ok-ok.field-0 c.try_from.result
    (sym c.script_number.ensures ∙ c.in_ok-value.was) c.try_from.ensures c.in_ok-ok.ensures.value
