use Rattle.std.proofs.Common.{◌+◌, ◌<◌, length, sym, ◌∙◌, ap, arith, subst}
use Rattle.s2ix_table_walk.specs.Table.{range_at}
use Rattle.s2ix_table_spans.specs.SpanTable.{SpanRanges}
use Rattle.s2ix_table_faced.proofs.Reading.{inside, ends_few}
use Rattle.s2ix_table_faced.proofs.faced_table.FacedTable.inner_row_at.Goals as goal

pub start-requires : goal.start-requires
start-requires c =
    let within = c.requires.next.within in
    subst (λ (s : SpanRanges). c.args.own < length s.ranges) (sym c.span-span.ensures) (omega arith)

pub start-requires-2 : goal.start-requires-2
start-requires-2 c = subst (λ (s : SpanRanges). c.args.own + 1 < length s.ranges) (sym c.span-span.ensures) c.requires.next.within

pub returns-clause-start : goal.returns-clause-start
returns-clause-start c =
    let is = inside c.args.part c.args.own c.args.self.now.joined c.requires.next c.requires.later in
    c.start.ensures ∙ ap (λ (s : SpanRanges). (range_at s.ranges c.args.own).start) c.span-span.ensures ∙ sym is.start

pub returns-clause-limit : goal.returns-clause-limit
returns-clause-limit c =
    let is = inside c.args.part c.args.own c.args.self.now.joined c.requires.next c.requires.later in
    c.start-2.ensures ∙ ap (λ (s : SpanRanges). (range_at s.ranges (c.args.own + 1)).start) c.span-span.ensures ∙ sym is.limit

pub overflow_add-own : goal.overflow_add-own
overflow_add-own c =
    let within_limit = ends_few c.args.part c.args.self.now.joined c.requires.next.listed in
    let within = c.requires.next.within in
    omega arith
