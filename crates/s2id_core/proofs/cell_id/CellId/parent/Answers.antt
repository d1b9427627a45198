use Rattle.std.proofs.Common.{◌∙◌, arith}
use Rattle.s2id_core.proofs.Ancestry.{ancestor_by_place}
use Rattle.s2id_core.proofs.cell_id.CellId.parent.Goals as goal

pub returns-else-level-clause-path : goal.returns-else-level-clause-path
returns-else-level-clause-path c =
    let n = c.args.self in
    let r = c.at_place.result in
    ancestor_by_place r.raw n.raw c.args.level r.valid n.valid (omega arith) c.at_place.ensures.level (c.at_place.ensures.place ∙ c.place_at.ensures.place)
