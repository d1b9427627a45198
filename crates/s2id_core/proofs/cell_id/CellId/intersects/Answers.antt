use Rattle.s2id_core.proofs.Nested.{crossing}
use Rattle.s2id_core.proofs.cell_id.CellId.intersects.Goals as goal

pub returns : goal.returns
returns c =
    let h = crossing c.args.self.raw c.args.other.raw c.crosses.result c.args.self.valid c.args.other.valid c.crosses.ensures in
    record { leaves = h.leaves; spans = c.crosses.ensures; nested = h.nested }
