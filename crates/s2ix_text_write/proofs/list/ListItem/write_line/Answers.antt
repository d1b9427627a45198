-- The line is written in an array, and put.
use Rattle.std.proofs.Common.{List, ℕ, subst}
use Rattle.s2ix_text_parts.specs.Puts.{Writes}
use Rattle.s2ix_text_write.proofs.list.ListItem.write_line.Goals as goal

pub returns : goal.returns
returns g c =
    subst (λ (line : List ℕ). Writes g.K.Sink c.args.sink.now c.put_all.new.sink c.put_all.result line) c.line_at-len.ensures.line
    c.put_all.ensures
