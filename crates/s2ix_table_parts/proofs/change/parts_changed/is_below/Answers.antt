use Rattle.std.proofs.Common.{◌<◌, ap, ◌∙◌, arith}
use Rattle.std.proofs.lemmas.Bool.Decides.{nat_tests}
use Rattle.s2id_core.specs.CellId.{raw_of}
use Rattle.s2id_core.specs.declared.cell_id.CellId.{CellId}
use Rattle.s2ix_table_parts.proofs.Cutting.{below_read}
use Rattle.s2ix_table_parts.proofs.change.parts_changed.is_below.Goals as goal

pub returns-in-Some : goal.returns-in-Some
returns-in-Some c test rise =
    let lt : c.raw.result < c.args.seam = grind (arith, nat_tests) in
    let raw = c.raw.ensures ∙ ap (λ (x : CellId). raw_of x) c.cell.ensures in
    below_read c.args.seam 0 c.args.list.now c.in-Some.last.now rise c.in-Some.ensures.item.1 (omega arith)
