-- The heavy pairs over two parts are the same if one place leads to them.
use Rattle.std.proofs.Common.{◌-◌, option_map, sym, ◌∙◌, ap, arith}
use Rattle.s2ix_table_spans.specs.SpanTable.{SpanRanges}
use Rattle.s2ix_table_faced.specs.Layout.{face_with}
use Rattle.s2ix_table_faced.specs.PartPlaces.{place_of_face}
use Rattle.s2ix_table_faced.proofs.LaidOnce.{read_told}
use Rattle.s2ix_table_parts.proofs.Shared.{over_at, seen_at}
use Rattle.s2ix_table_faced.proofs.layout.Layout.is_under_same.Goals as goal

pub returns : goal.returns
returns c =
    let parts = c.args.self.parts.now in
    let n = c.args.next in
    let within = c.requires.within in
    let told = c.are_one.ensures in
    let begin = c.from.ensures.from ∙ ap (λ (t : SpanRanges). t.from)
    (seen_at parts (n - 1) c.index-self-next.result c.table.result.now (omega arith) c.table.ensures) in
    let next_begin = c.from-2.ensures.from ∙ ap (λ (t : SpanRanges). t.from)
    (seen_at parts n c.index-self-next-2.result c.table-2.result.now within c.table-2.ensures) in
    let one = c.there-one.ensures ∙ ap (λ leaf. option_map (place_of_face (face_with leaf)) c.heavy_place.result) begin in
    let other = c.there-other.ensures ∙ ap (λ leaf. option_map (place_of_face (face_with leaf)) c.heavy_place-2.result) next_begin in
    read_told parts n _ _ _ c.requires.layout within
    (over_at parts (n - 1) c.index-self-next.result c.heavy_place.result (omega arith) c.heavy_place.ensures)
    (over_at parts n c.index-self-next-2.result c.heavy_place-2.result within c.heavy_place-2.ensures)
    (λ t. sym one ∙ told.0 t ∙ other, λ e. told.1 (one ∙ e ∙ sym other))
