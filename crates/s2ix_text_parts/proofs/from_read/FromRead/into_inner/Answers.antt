use Rattle.std.proofs.Common.{rules}
use Rattle.s2ix_text_parts.proofs.from_read.FromRead.into_inner.Goals as goal

pub returns : goal.returns
returns g c = search rules
