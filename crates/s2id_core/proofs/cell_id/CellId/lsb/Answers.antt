use Rattle.s2id_core.proofs.Bits.{lowest_by_bits}
use Rattle.s2id_core.proofs.cell_id.CellId.lsb.Goals as goal

pub returns : goal.returns
returns c = lowest_by_bits c.args.self.raw c.args.self.valid
