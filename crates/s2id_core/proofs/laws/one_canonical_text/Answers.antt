use Rattle.s2id_core.proofs.Canonical.{one_canonical}
use Rattle.s2id_core.proofs.laws.one_canonical_text.Goals as goal

pub returns : goal.returns
returns c = one_canonical
