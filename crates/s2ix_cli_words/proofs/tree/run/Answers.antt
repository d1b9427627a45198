use Rattle.std.proofs.Common.{◌∙◌, ap, codes}
use Rattle.std.proofs.lemmas.Result.{IfOk-weaker}
use Rattle.clap.specs.Words.{new_app}
use Rattle.clap.specs.Simple.{app_of_fields}
use Rattle.clap.specs.declared.builder.Command.{Command}
use Rattle.clap.specs.declared.builder.Command.TheOpen.{Command-F}
use Rattle.s2ix_cli_words.specs.Tree.{IsCommand}
use Rattle.s2ix_cli_words.proofs.Trees.{is_subcommand, with_argument}
use Rattle.s2ix_cli_words.proofs.tree.run.Goals as goal

pub returns : goal.returns
returns c =
    let bare : IsCommand (new_app (codes "run")) c.after_help.result = (
      ap app_of_fields c.after_help.ensures ∙ ap app_of_fields c.about.ensures ∙ c.new.ensures.app,
      ap (λ (fields : Command-F Command). fields.has_globals) c.after_help.ensures
          ∙ ap (λ (fields : Command-F Command). fields.has_globals) c.about.ensures ∙ c.new.ensures.local,
    ) in
    let one = with_argument _ _ _ _ _ bare c.option.ensures.rule c.option.ensures.local c.in_ok-arg.ensures in
    let two = with_argument _ _ _ _ _ one c.option-2.ensures.rule c.option-2.ensures.local c.in_ok-arg-2.ensures in
    let three = with_argument _ _ _ _ _ two c.option-3.ensures.rule c.option-3.ensures.local c.in_ok-arg-3.ensures in
    let four = with_argument _ _ _ _ _ three c.option-4.ensures.rule c.option-4.ensures.local c.in_ok-arg-4.ensures in
    let five = with_argument _ _ _ _ _ four c.option-5.ensures.rule c.option-5.ensures.local c.in_ok-arg-5.ensures in
    IfOk-weaker c.arg-6.result _ _
    (λ command adds. is_subcommand _ command (with_argument _ _ _ _ command five c.flag.ensures.rule c.flag.ensures.local adds)) c.arg-6.ensures
