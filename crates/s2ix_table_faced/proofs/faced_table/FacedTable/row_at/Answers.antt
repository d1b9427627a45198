use Rattle.std.proofs.Common.{◌<◌, length, sym, ◌∙◌, ap, arith, subst}
use Rattle.s2ix_table_walk.specs.Table.{range_at}
use Rattle.s2ix_table_spans.specs.SpanTable.{SpanRanges}
use Rattle.s2ix_table_faced.specs.declared.offset.Offset.{Offset}
use Rattle.s2ix_table_faced.proofs.Counts.{last_listed}
use Rattle.s2ix_table_faced.proofs.Reading.{is_read, many_places, offset_read}
use Rattle.s2ix_table_faced.proofs.faced_table.FacedTable.row_at.Goals as goal

pub span-requires : goal.span-requires
span-requires c =
    let many = many_places c.args.self.now.joined in
    let listed = c.requires.last.within in
    omega arith

pub range-row-requires : goal.range-row-requires
range-row-requires c =
    subst (λ (s : SpanRanges). c.args.own < length s.ranges) (sym c.span.ensures)
    (is_read c.args.part c.args.own c.args.self.now.joined c.requires).within

pub returns-then-own-eq0-clause-start : goal.returns-then-own-eq0-clause-start
returns-then-own-eq0-clause-start c =
    let t = c.args.self.now in
    let read = is_read c.args.part c.args.own t.joined c.requires in
    let is = offset_read c.args.part c.index.result.now t.joined (last_listed c.args.part t.joined c.requires.last) c.index.ensures in
    ap (λ (o : Offset). o.start) is ∙ sym (read.begins c.if-own-eq0.true)

pub returns-then-own-eq0-clause-limit : goal.returns-then-own-eq0-clause-limit
returns-then-own-eq0-clause-limit c =
    let read = is_read c.args.part c.args.own c.args.self.now.joined c.requires in
    c.range-row.ensures.limit ∙ ap (λ (s : SpanRanges). (range_at s.ranges c.args.own).limit) c.span.ensures ∙ sym read.limit

pub returns-else-own-eq0-clause-start : goal.returns-else-own-eq0-clause-start
returns-else-own-eq0-clause-start c =
    let read = is_read c.args.part c.args.own c.args.self.now.joined c.requires in
    let some = c.if-own-eq0.false in
    c.range-row.ensures.start
    ∙ ap (λ (s : SpanRanges). (range_at s.ranges c.args.own).start) c.span.ensures ∙ sym (read.start (omega (arith, some)))

pub returns-else-own-eq0-clause-limit : goal.returns-else-own-eq0-clause-limit
returns-else-own-eq0-clause-limit c =
    let read = is_read c.args.part c.args.own c.args.self.now.joined c.requires in
    c.range-row.ensures.limit ∙ ap (λ (s : SpanRanges). (range_at s.ranges c.args.own).limit) c.span.ensures ∙ sym read.limit
