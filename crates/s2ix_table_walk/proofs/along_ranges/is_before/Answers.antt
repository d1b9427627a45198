use Rattle.std.proofs.Common.{◌+◌, ◌<◌, ◌∙◌, ap, rules, arith}
use Rattle.std.proofs.lemmas.List.{get_or_default}
use Rattle.s2id_core.specs.declared.cell_id.CellId.{CellId}
use Rattle.s2id_core.specs.CellId.{raw_of, first_of}
use Rattle.s2id_core.proofs.Nested.{span}
use Rattle.s2ix_table_walk.proofs.along_ranges.is_before.Goals as goal

pub returns-then-step-cells-clause-begins : goal.returns-then-step-cells-clause-begins
returns-then-step-cells-clause-begins c d below =
    let x = c.index-cells-k.result in
    let s = span (raw_of x) x.valid in
    let from = s.from in
    let within = c.if-step-cells.true in
    let k = c.requires in
    let raw = c.raw.ensures in
    let e = ap (λ (y : CellId). first_of y)
    (c.index-cells-k.is ∙ get_or_default c.args.cells.now (c.args.k + c.args.step) x d (omega arith)) in
    let less : c.raw.result < c.args.limit = search rules in
    omega arith
