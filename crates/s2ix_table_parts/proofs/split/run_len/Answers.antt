-- The pairs of the first run are of one cell, and the next pair is of another.
use Rattle.std.proofs.Common.{sym, ap, ◌∙◌, rules}
use Rattle.std.proofs.lemmas.List.{get_or_default}
use Rattle.s2id_core.specs.declared.cell_id.CellId.{CellId}
use Rattle.s2ix_bag_pairs.specs.declared.pair.Held.{Held}
use Rattle.s2ix_table_parts.proofs.Runs.{cells_differ, cells_same, first_run_more, later_cells}
use Rattle.s2ix_table_parts.proofs.split.run_len.Goals as goal

pub loop-len-preserved : goal.loop-len-preserved
loop-len-preserved c =
    let same =
    sym c.cell.ensures ∙ cells_same c.cell.result c.cell-in-loop-len.result c.if-eq.ensures ∙ c.cell-in-loop-len.ensures in (
      search rules,
      search rules,
      first_run_more c.args.pairs.now c.loop-len.len c.index-pairs-len.result c.index-pairs-0.result c.loop-len.invariant.2 (search rules)
          c.index-pairs-len.is c.index-pairs-0.is same,
    )

pub returns-else-eq-clause-lesser : goal.returns-else-eq-clause-lesser
returns-else-eq-clause-lesser c =
    let cell : Held → CellId = λ h. h.pair.cell in
    let hs = c.args.pairs.now in
    let first = c.index-pairs-0.result in
    later_cells hs c.loop-len.len first c.requires.rises c.loop-len.invariant.0 c.loop-len.invariant.2
    (λ lt same. cells_differ c.cell.result c.cell-in-loop-len.result c.if-eq.ensures
    (c.cell.ensures ∙ ap cell c.index-pairs-len.is ∙ ap cell (get_or_default hs c.loop-len.len c.index-pairs-len.result first lt) ∙ same
    ∙ ap cell (sym c.index-pairs-0.is) ∙ sym c.cell-in-loop-len.ensures))
