use Rattle.std.proofs.Common.{sym, subst}
use Rattle.s2ix_cli_words.specs.Shown.{ArePlain}
use Rattle.s2ix_cli_words.proofs.Plain.{nothing-plain}
use Rattle.s2ix_cli_words.proofs.shown.plain_text.Goals as goal

pub loop-c-init : goal.loop-c-init
loop-c-init c = subst ArePlain (sym c.new-plain.ensures.bytes) nothing-plain
