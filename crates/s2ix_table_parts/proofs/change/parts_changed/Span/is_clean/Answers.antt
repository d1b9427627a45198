use Rattle.std.proofs.Common.{◌<◌, length, arith}
use Rattle.s2ix_bag_lists.specs.View.{lists_in}
use Rattle.s2ix_table_parts.specs.FaceSpans.{spans_of, no_table}
use Rattle.s2ix_table_parts.proofs.Cutting.{begins_count, begin_at, clean_cut}
use Rattle.s2ix_table_parts.proofs.Shared.{many_shared}
use Rattle.s2ix_table_parts.proofs.change.parts_changed.Span.is_clean.Goals as goal

pub bounds-begins-cut : goal.bounds-begins-cut
bounds-begins-cut c =
    let many = begins_count c.args.self.entries.now c.args.begins.now c.requires.begins in
    let fit = c.requires.entries in
    omega arith

pub returns-then-are_below : goal.returns-then-are_below
returns-then-are_below c test =
    let own = c.args.self in
    let cut = c.args.cut in
    let r = c.requires in
    let count = many_shared own.tables.now in
    let some = r.tables in
    let within : cut.tables < length (spans_of own.tables.now) = omega arith in
    let reach = c.if-cut.false in
    let by = c.if-begins-cut.false in
    clean_cut cut.seam own.from own.to cut.tables cut.lists cut.entries no_table (spans_of own.tables.now) (lists_in own.lists) own.entries.now within
    r.lists r.entries r.seam r.changed (λ e i. let le = r.reach e i in omega arith)
    (λ e i. let le = begin_at cut.entries own.entries.now c.args.begins.now 0 r.entries r.begins e i in omega arith)
    (c.are_below.ensures c.if-are_below.true) (c.are_from.ensures test)
