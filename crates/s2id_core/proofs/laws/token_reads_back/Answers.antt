use Rattle.s2id_core.proofs.Canonical.{canonical_spells}
use Rattle.s2id_core.proofs.laws.token_reads_back.Goals as goal

pub returns : goal.returns
returns c = canonical_spells
