use Rattle.std.proofs.Common.{subst}
use Rattle.bstr.specs.Text.{TakesFirstRef}
use Rattle.s2ix_cli_words.specs.Fields.{fields_of}
use Rattle.s2ix_cli_words.proofs.fields.Fields.next_wide.Goals as goal

pub returns : goal.returns
unfolding fields_of
returns c =
    subst (λ fields. TakesFirstRef fields c.next-first.result c.next-first.new.self) c.fields-fields.ensures.value
    c.next-first.ensures.steps
