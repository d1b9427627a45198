use Rattle.std.proofs.Common.{◌<◌, length, refl, ◌∙◌, ap, arith}
use Rattle.s2ix_table_spans.specs.SpanTable.{SpanRanges}
use Rattle.s2ix_table_faced.specs.declared.offset.Offset.{Offset}
use Rattle.s2ix_table_parts.specs.FaceSpans.{spans_of}
use Rattle.s2ix_table_faced.proofs.Counts.{inner_near}
use Rattle.s2ix_table_faced.proofs.Reading.{many_offsets, offset_read, ends_few}
use Rattle.s2ix_table_parts.proofs.Shared.{many_shared}
use Rattle.s2ix_table_faced.proofs.faced_table.FacedTable.own_near.Goals as goal

pub index-requires : goal.index-requires
index-requires c =
    let t = c.args.self.now in
    let some = c.if-near-len.false in
    let len = c.len.ensures in
    omega (arith, some, many_shared t.parts.items, many_offsets t.joined, t.parts.ok.0, t.offsets.ok.0)

pub overflow_add-past : goal.overflow_add-past
overflow_add-past c =
    let t = c.args.self.now in
    let some = c.if-near-len.false in
    let len = c.len.ensures in
    let within : c.args.near < length (spans_of t.parts.items) = omega (arith, some, many_shared t.parts.items, t.parts.ok.0) in
    let is = offset_read c.args.near c.index.result.now t.joined within c.index.ensures in
    omega (arith, ends_few c.args.near t.joined within, ap (λ (o : Offset). o.place) is)

pub returns-then-past-saturating_sub-clause-place : goal.returns-then-past-saturating_sub-clause-place
returns-then-past-saturating_sub-clause-place c =
    let t = c.args.self.now in
    let some = c.if-near-len.false in
    let len = c.len.ensures in
    let within : c.args.near < length (spans_of t.parts.items) = omega (arith, some, many_shared t.parts.items, t.parts.ok.0) in
    let is = offset_read c.args.near c.index.result.now t.joined within c.index.ensures in
    let many = c.range_count.ensures ∙ ap (λ (s : SpanRanges). length s.ranges) c.span.ensures in
    let less = c.if-past-saturating_sub.true in
    let inner = c.saturating_sub.ensures in
    (inner_near c.args.k c.args.near _ c.range_count.result c.index.result.now t.joined within many is c.ranges.k.fits refl
    (omega (arith, less, inner))).place
