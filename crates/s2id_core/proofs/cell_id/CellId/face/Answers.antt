use Rattle.s2id_core.proofs.Bits.{face_by_bits}
use Rattle.s2id_core.proofs.cell_id.CellId.face.Goals as goal

pub returns : goal.returns
returns c = face_by_bits c.args.self.raw
