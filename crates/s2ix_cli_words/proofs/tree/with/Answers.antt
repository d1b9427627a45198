-- If the subcommand could be made, clap adds it.
use Rattle.std.proofs.lemmas.Result.{IfOk-weaker}
use Rattle.s2ix_cli_words.specs.Tree.{IsSubcommand}
use Rattle.s2ix_cli_words.proofs.Trees.{told_of, with_command}
use Rattle.s2ix_cli_words.proofs.tree.with.Goals as goal

pub returns : goal.returns
returns c =
    λ words shape told added.
    let own : IsSubcommand shape c.in_ok-added.field-0 = told_of _ _ _ c.in_ok-added.was added in
    IfOk-weaker c.subcommand.result _ _ (λ new adds. with_command words shape c.args.command c.in_ok-added.field-0 new told own adds) c.subcommand.ensures
