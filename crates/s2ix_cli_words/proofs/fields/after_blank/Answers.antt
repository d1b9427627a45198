use Rattle.std.proofs.Common.{◌∙◌, arith, sym}
use Rattle.s2ix_cli_words.proofs.PlainFields.{fields_of-blank_at}
use Rattle.s2ix_cli_words.proofs.fields.after_blank.Goals as goal

pub loop-start-preserved : goal.loop-start-preserved
loop-start-preserved c = (
  omega arith,
  fields_of-blank_at c.args.text.now c.loop-start.start (omega arith) (sym c.is_blank.ensures ∙ c.if-is_blank.true)
      ∙ c.loop-start.invariant.1,
)
