use Rattle.std.proofs.Common.{◌≡◌, length, sym, ◌∙◌, arith}
use Rattle.std.proofs.lemmas.Bool.Decides.{nat_tests}
use Rattle.s2ix_bag_lists.specs.View.{lists_in}
use Rattle.s2ix_table_parts.specs.FaceSpans.{spans_of}
use Rattle.s2ix_table_parts.proofs.Cutting.{none_left, none_held}
use Rattle.s2ix_table_parts.proofs.Shared.{many_shared}
use Rattle.s2ix_table_parts.proofs.change.parts_changed.Span.is_done.Goals as goal

pub returns-then-is_empty-clause-pairs : goal.returns-then-is_empty-clause-pairs
returns-then-is_empty-clause-pairs c test =
    let own = c.args.self in
    let count = many_shared own.tables.now in
    let none : length (spans_of own.tables.now) ≡ 0 = grind (arith, nat_tests) in
    let left = none_left own.from own.to (spans_of own.tables.now) (lists_in own.lists) own.entries.now none c.requires in
    none_held (spans_of own.tables.now) none ∙ sym left.1
