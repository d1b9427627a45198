-- A cell that lies within a part goes over none.
use Rattle.std.proofs.Common.{◌≡◌, ◌<◌, length, ap, ◌∙◌, arith}
use Rattle.std.proofs.lemmas.Bool.{both_ways}
use Rattle.s2ix_bag_lists.specs.Faces.{all_of}
use Rattle.s2ix_table_spans.specs.SpanTable.{SpanRanges}
use Rattle.s2ix_table_parts.specs.FaceSpans.{spans_of, table_of}
use Rattle.s2ix_table_parts.proofs.GoingOver.{over_none}
use Rattle.s2ix_table_parts.proofs.Shared.{many_shared, seen_at}
use Rattle.s2ix_table_parts.proofs.change.face_after.Face.goes_over.Goals as goal

pub returns-then-end-next : goal.returns-then-end-next
returns-then-end-next c =
    let f = c.args.self in
    let ts = spans_of f.parts.now in
    let many = many_shared f.parts.now in
    let k = c.last_by-part.result in
    let part = c.index-self-part.result in
    let lt : k < length f.parts.now = omega arith in
    let seen = seen_at f.parts.now k part c.table.result.now lt c.table.ensures in
    let begins : c.from.result ≡ (table_of ts k).from = c.from.ensures.from ∙ ap (λ (s : SpanRanges). s.from) seen in
    let start = c.span_start-begin.ensures in
    let end = c.span_end-end.ensures in
    over_none f.face ts (all_of f.heavy.now) c.args.cell k c.from.result c.end_of-next.result
    c.face_begin-last.result
    (λ holds. both_ways c.has_cell.result c.if-has_cell.false (c.has_cell.ensures.1 holds)) c.requires.neighbours (omega (arith, many, lt)) begins
    c.end_of-next.ensures.next c.end_of-next.ensures.last c.face_begin-last.ensures (omega arith) (omega arith)
