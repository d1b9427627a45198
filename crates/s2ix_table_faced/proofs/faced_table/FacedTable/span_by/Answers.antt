use Rattle.std.proofs.Common.{◌<◌, length, arith, sym, subst}
use Rattle.s2ix_table_spans.specs.SpanTable.{IsSpanTable}
use Rattle.s2ix_table_parts.specs.FaceSpans.{spans_of}
use Rattle.s2ix_table_faced.proofs.OneFace.{some_parts}
use Rattle.s2ix_table_faced.proofs.Reading.{known}
use Rattle.s2ix_table_faced.proofs.faced_table.FacedTable.span_by.Goals as goal

pub returns : goal.returns
returns c =
    let t = c.args.self.now in
    let within : c.min.result < length (spans_of t.parts.items) = omega (arith, c.min.ensures, c.part_count.ensures, some_parts (spans_of t.parts.items) t.joined.neighbours) in
    subst IsSpanTable (sym c.span.ensures) (known c.min.result t.joined within)
