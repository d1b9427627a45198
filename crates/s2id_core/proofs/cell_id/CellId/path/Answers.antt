use Rattle.std.proofs.Common.{arith}
use Rattle.s2id_core.specs.Path.{path_at}
use Rattle.s2id_core.proofs.Numbers.{path_of_cell}
use Rattle.s2id_core.proofs.PathTexts.{text_by_bytes}
use Rattle.s2id_core.proofs.cell_id.CellId.path.Goals as goal

pub overflow_add-bytes : goal.overflow_add-bytes
overflow_add-bytes c = omega (arith, (path_of_cell c.args.self.raw c.args.self.valid).face_below)

pub returns : goal.returns
returns c =
    let i = c.loop-k.invariant in
    text_by_bytes c.loop-k.bytes c.level-level.result (path_at c.args.self.raw) i.long c.level-level.ensures.at_most c.level-level.ensures.level i.face i.slash (λ j h. i.digits j (omega arith))
