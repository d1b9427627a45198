use Rattle.s2id_core.proofs.Nested.{containing}
use Rattle.s2id_core.proofs.cell_id.CellId.contains.Goals as goal

pub returns : goal.returns
returns c =
    let h = containing c.args.self.raw c.args.other.raw c.reaches.result c.args.self.valid c.args.other.valid c.reaches.ensures in
    record { leaves = h.leaves; within = h.within; nested = h.nested }
