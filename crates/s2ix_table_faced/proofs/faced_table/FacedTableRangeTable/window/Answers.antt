use Rattle.std.proofs.Common.{◌≡◌, ℕ, ◌+◌, ◌-◌, ◌<◌, ◌≤◌, get_or, length, sym, ap, arith, subst}
use Rattle.s2ix_table_walk.specs.LeafWindows.{HaveLeaves}
use Rattle.s2ix_table_spans.specs.SpanTable.{SpanRanges}
use Rattle.s2ix_table_spans.specs.Starts.{IsAmong}
use Rattle.s2ix_table_faced.specs.declared.offset.Offset.{Offset}
use Rattle.s2ix_table_parts.specs.FaceSpans.{spans_of, table_of}
use Rattle.s2ix_table_faced.specs.Layout.{ranges_of}
use Rattle.s2ix_table_faced.proofs.FirstParts.{leaf_before_end, length_starts}
use Rattle.s2ix_table_faced.proofs.Reading.{no_offset, many_offsets, many_places, offset_read, ends_few}
use Rattle.s2ix_table_faced.proofs.Stretches.{parts_window}
use Rattle.s2ix_table_faced.proofs.faced_table.FacedTableRangeTable.window.Goals as goal
use Rattle.s2ix_table_faced.proofs.faced_table.FacedTableRangeTable.window.Goals.{After-parts_with-parts, After-range_count}

-- the parts that have the leaf among them
parts_are : (c : After-parts_with-parts)
    → IsAmong c.args.self.now.begins.starts.items c.args.leaf c.parts_with-parts.result.first c.parts_with-parts.result.size
parts_are c = c.parts_with-parts.ensures

-- the last one of these is a part
listed : (c : After-parts_with-parts)
    → c.parts_with-parts.result.first + c.parts_with-parts.result.size ≤ length (spans_of c.args.self.now.parts.items)
listed c =
    let within = (parts_are c).within in
    let many = length_starts c.args.self.now.joined in
    omega arith

pub index-requires : goal.index-requires
index-requires c =
    let t = c.args.self.now in
    let h = (goal.at.index-requires c).After-parts_with-parts in
    let some = (parts_are h).some in
    omega (arith, listed h, many_offsets t.joined, t.offsets.ok.0)

pub index-requires-2 : goal.index-requires-2
index-requires-2 c =
    let t = c.args.self.now in
    let h = (goal.at.index-requires-2 c).After-parts_with-parts in
    let some = (parts_are h).some in
    omega (arith, listed h, many_offsets t.joined, t.offsets.ok.0)

-- their ranges
ranges_are : (c : After-range_count)
    → (c.index.result.now.place ≤ c.index-2.result.now.place + c.range_count.result)
    × HaveLeaves (ranges_of c.args.self.now.parts.items c.args.self.now.heavy) c.args.leaf
    (table_of (spans_of c.args.self.now.parts.items) (c.parts_with-parts.result.first + c.parts_with-parts.result.size - 1)).to
    c.index.result.now.place (c.index-2.result.now.place + c.range_count.result - c.index.result.now.place)
    × (c.index-2.result.now.place + c.range_count.result ≤ 2000001)
ranges_are c =
    let t = c.args.self.now in
    let ranges = ranges_of t.parts.items t.heavy in
    let parts = c.parts_with-parts.ensures in
    let some = parts.some in
    let within = parts.within in
    let many = length_starts t.joined in
    let first = c.parts_with-parts.result.first in
    let last : ℕ = c.parts_with-parts.result.first + c.parts_with-parts.result.size - 1 in
    let is : last + 1 ≡ c.parts_with-parts.result.first + c.parts_with-parts.result.size = omega arith in
    let in_parts : last < length (spans_of t.parts.items) = omega arith in
    let later = leaf_before_end c.args.leaf first c.parts_with-parts.result.size last t.joined parts c.requires.within is in
    let read = offset_read last c.index-2.result.now t.joined in_parts c.index-2.ensures in
    let begin = offset_read first c.index.result.now t.joined (omega arith) c.index.ensures in
    let end : c.index-2.result.now.place + c.range_count.result ≡ (get_or t.offsets.items last no_offset).place + length c.span.result.now.ranges =
    omega (arith, ap (λ (o : Offset). o.place) read, c.range_count.ensures) in
    let own = ap (λ (s : SpanRanges). length s.ranges) c.span.ensures in
    let have = parts_window first last c.args.leaf _ c.span.result.now t.joined (omega arith) in_parts parts.by later c.span.ensures end in
    let place = ap (λ (o : Offset). o.place) begin in (
      omega (arith, have.0, place),
      subst (λ (o : Offset). HaveLeaves ranges c.args.leaf (table_of (spans_of t.parts.items) last).to o.place
          (c.index-2.result.now.place + c.range_count.result - o.place)) (sym begin) have.1,
      omega (arith, ends_few last t.joined in_parts, end, own),
    )

pub overflow_add-end : goal.overflow_add-end
overflow_add-end c = let within_limit = (ranges_are (goal.at.overflow_add-end c).After-range_count).2 in omega arith

pub overflow_sub-result : goal.overflow_sub-result
overflow_sub-result c = (ranges_are (goal.at.overflow_sub-result c).After-range_count).0

pub returns-clause-window : goal.returns-clause-window
returns-clause-window c =
    let h = (goal.at.returns-clause-window c).After-range_count in
    subst (λ (until : ℕ). HaveLeaves (ranges_of c.args.self.now.parts.items c.args.self.now.heavy) c.args.leaf until c.index.result.now.place
    (c.index-2.result.now.place + c.range_count.result - c.index.result.now.place)) (sym c.end_of_part.ensures) (ranges_are h).1

pub returns-clause-borders : goal.returns-clause-borders
returns-clause-borders c =
    let h = (goal.at.returns-clause-borders c).After-parts_with-parts in
    let some = (parts_are h).some in
    omega (arith, listed h, many_places c.args.self.now.joined)
