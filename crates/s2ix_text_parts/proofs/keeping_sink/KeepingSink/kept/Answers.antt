use Rattle.std.proofs.Common.{rules}
use Rattle.s2ix_text_parts.proofs.keeping_sink.KeepingSink.kept.Goals as goal

pub returns : goal.returns
returns c = search rules
