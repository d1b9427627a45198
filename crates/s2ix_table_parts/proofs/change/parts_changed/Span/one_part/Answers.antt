use Rattle.std.proofs.Common.{arith}
use Rattle.s2ix_bag_lists.specs.View.{lists_in}
use Rattle.s2ix_table_parts.specs.FaceSpans.{spans_of}
use Rattle.s2ix_table_parts.proofs.Cutting.{changed_in_span}
use Rattle.s2ix_table_parts.proofs.Shared.{many_shared}
use Rattle.s2ix_table_parts.proofs.change.parts_changed.Span.one_part.Goals as goal

pub stays_whole-requires : goal.stays_whole-requires
stays_whole-requires c =
    let own = c.args.self in
    let one = c.if-self-ne1.false in
    let count = many_shared own.tables.now in
    changed_in_span (spans_of own.tables.now) (lists_in own.lists) own.entries.now own.from own.to (omega arith) c.requires
