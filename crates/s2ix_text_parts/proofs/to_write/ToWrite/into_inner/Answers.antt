use Rattle.std.proofs.Common.{rules}
use Rattle.s2ix_text_parts.proofs.to_write.ToWrite.into_inner.Goals as goal

pub returns : goal.returns
returns g c = search rules
