-- One part more, of the next table.
use Rattle.std.proofs.Common.{◌<◌, length, sym, ap, ◌∙◌, arith}
use Rattle.std.proofs.lemmas.List.{append-nil, get_or-map, length-map}
use Rattle.std.specs.Arc.{arc_value}
use Rattle.s2ix_table_parts.specs.FaceSpans.{no_table, heavy_places_of, spans_of, tables_of}
use Rattle.s2ix_table_parts.proofs.Shared.{next_over, next_span}
use Rattle.s2ix_table_parts.proofs.part.share_under.Goals as goal

pub loop-table-init : goal.loop-table-init
loop-table-init c = (sym (append-nil (spans_of c.args.parts.now.items)), sym (append-nil (heavy_places_of c.args.parts.now.items)))

pub loop-table-preserved : goal.loop-table-preserved
loop-table-preserved c =
    let tables = c.args.tables.now in
    let before = c.args.parts.now.items in
    let parts = c.loop-table.parts.items in
    let now = c.push.new.self.items in
    let i = c.loop-table.table-index in
    let test = c.loop-table-test.true in
    let within : i < length tables = omega (arith, test) in
    let many = length-map tables arc_value in
    let was = c.loop-table.invariant in
    let put = c.in_ok-push.ensures.items in
    let table = c.in_ok-table.table in
    let is = c.in_ok-table.ensures.cases ∙ ap arc_value c.table-item.is ∙ sym (get_or-map arc_value tables i c.table-item.result no_table within) in (
      next_span (spans_of before) (tables_of tables) parts now i table.value c.args.heavy_place was.0 (omega (arith, many, within)) is put,
      next_over (heavy_places_of before) parts now i table.value c.args.heavy_place was.1 put,
    )
