use Rattle.std.proofs.Common.{rules}
use Rattle.s2id_core.proofs.token.Token.as_bytes.Goals as goal

pub returns : goal.returns
returns c = search rules
