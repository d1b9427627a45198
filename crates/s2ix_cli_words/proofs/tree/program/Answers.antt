-- One subcommand after the other.
use Rattle.std.specs.Prelude.{codes}
use Rattle.std.proofs.lemmas.Result.{IfOk-weaker}
use Rattle.s2ix_cli_words.specs.Tree.{check_words, diff_words, own_words, run_words, texts_words}
use Rattle.s2ix_cli_words.proofs.Trees.{told_of}
use Rattle.s2ix_cli_words.proofs.tree.program.Goals as goal

pub returns : goal.returns
returns c =
    let one = told_of _ _ _ c.in_ok-command-2.was (c.with.ensures own_words run_words c.in_ok-command.ensures c.run.ensures) in
    let two = told_of _ _ _ c.in_ok-command-3.was (c.with-2.ensures _ check_words one c.check.ensures) in
    let three = told_of _ _ _ c.in_ok-command-4.was (c.with-3.ensures _ (texts_words (codes "replay")) two c.texts.ensures) in
    let four = told_of _ _ _ c.in_ok-command-5.was (c.with-4.ensures _ (texts_words (codes "rewind")) three c.texts-2.ensures) in
    IfOk-weaker c.with-5.result _ _ (λ command told. told.0) (c.with-5.ensures _ diff_words four c.diff.ensures)
