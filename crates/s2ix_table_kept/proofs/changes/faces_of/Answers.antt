-- Each entry marks its face.
use Rattle.std.proofs.Common.{◌≡◌, ◌∙◌, ◌<◌, ℕ, sym, arith}
use Rattle.s2id_core.proofs.Bits.{face_by_bits}
use Rattle.s2id_core.specs.CellId.{raw_of, face_of}
use Rattle.s2id_core.specs.declared.cell_id.CellId.{CellId}
use Rattle.s2ix_bag_lists.proofs.Ends.{face_below_six}
use Rattle.s2ix_table_kept.proofs.Marked.{mark_next}
use Rattle.s2ix_table_kept.proofs.changes.faces_of.Goals as goal

below_six : (cell : CellId) (n : ℕ) → n ≡ face_of cell → n < 6
below_six cell n is = face_below_six (raw_of cell) n cell.valid.0 (is ∙ sym (face_by_bits (raw_of cell)))

pub bounds-changed-from : goal.bounds-changed-from
bounds-changed-from c = below_six c.entry-item.result.pair.cell c.from.result (c.from.ensures ∙ c.face.ensures)

pub loop-entry-preserved : goal.loop-entry-preserved
loop-entry-preserved c =
    let e = c.entry-item.result in
    let is = c.from.ensures ∙ c.face.ensures in
    mark_next c.args.entries.now c.loop-entry.changed c.loop-entry.entry-index c.from.result e (omega arith) c.entry-item.is is
    (below_six e.pair.cell c.from.result is) c.loop-entry.invariant
