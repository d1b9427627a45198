-- The next offset is put in its place, or all from it on are moved.
use Rattle.std.proofs.Common.{◌≡◌, ◌+◌, ◌-◌, ◌++◌, ◌≤◌, drop, length, map, max, set, take, sym, ◌∙◌, ap, arith, subst}
use Rattle.s2ix_table_spans.specs.SpanTable.{SpanRanges}
use Rattle.s2ix_table_parts.specs.FaceSpans.{spans_of, table_of}
use Rattle.s2ix_table_parts.specs.Neighbours.{held_in}
use Rattle.s2ix_table_faced.specs.Layout.{covered, heavy_in}
use Rattle.s2ix_table_parts.specs.Layers.{joined_layers}
use Rattle.s2ix_table_faced.specs.Offsets.{offset_after, offset_at, offsets_of, moved, AreMovable, AreOffsetsFrom}
use Rattle.s2ix_table_faced.proofs.Laid.{after_laid, is_same_over, laid_over, many_covered, parts_meet}
use Rattle.s2ix_table_faced.proofs.Moving.{AreCountedTo, counted_one, last_few, moved_right, own_behind}
use Rattle.s2ix_table_faced.proofs.Offsets.{length_offsets}
use Rattle.s2ix_table_faced.proofs.Reading.{first_offset}
use Rattle.s2ix_table_parts.proofs.Shared.{many_shared, seen_at}
use Rattle.s2ix_table_faced.proofs.layout.Layout.count_next.Goals.{After-of_next-offset}
use Rattle.s2ix_table_faced.proofs.layout.Layout.count_next.Goals as goal

pub of_next-offset-requires-clause-within_limit : goal.of_next-offset-requires-clause-within_limit
of_next-offset-requires-clause-within_limit c =
    let parts = c.args.self.parts.now in
    let heavy = heavy_in c.args.self.heavy.now in
    let shown = covered heavy (spans_of parts) in
    let os = c.args.offsets.now in
    let n = c.args.next in
    let within = c.requires.within in
    let many = many_covered heavy (spans_of parts) ∙ many_shared parts in
    let all = joined_layers (held_in (spans_of parts)) heavy in
    let over = laid_over c.requires.layout in
    let within_limit = last_few all shown os n over c.requires.layout.within_limit c.requires.some (omega arith) c.requires.before in
    omega (arith, within_limit)

pub of_next-offset-requires-clause-neighbours : goal.of_next-offset-requires-clause-neighbours
of_next-offset-requires-clause-neighbours c =
    let parts = c.args.self.parts.now in
    let n = c.args.next in
    let some = c.requires.some in
    let within = c.requires.within in
    let many = many_shared parts in
    let one = seen_at parts (n - 1) c.index-self-next.result c.table.result.now (omega arith) c.table.ensures in
    let next = seen_at parts n c.index-self-next-2.result c.table-2.result.now within c.table-2.ensures in
    ap (λ (t : SpanRanges). t.to) one
    ∙ parts_meet (spans_of parts) (n - 1) n c.requires.layout.neighbours (omega arith) (omega arith)
    ∙ sym (ap (λ (t : SpanRanges). t.from) next)

-- ---- the offset that is counted

next_is : (c : After-of_next-offset)
    → c.of_next-offset.result
    ≡ offset_after (offset_at c.args.offsets.now (c.args.next - 1))
    (table_of (covered (heavy_in c.args.self.heavy.now) (spans_of c.args.self.parts.now)) (c.args.next - 1)).ranges
    (table_of (covered (heavy_in c.args.self.heavy.now) (spans_of c.args.self.parts.now)) c.args.next).ranges
next_is c =
    let parts = c.args.self.parts.now in
    let n = c.args.next in
    let within = c.requires.within in
    let some = c.requires.some in
    let own = many_shared parts in
    after_laid parts (heavy_in c.args.self.heavy.now) (offset_at c.args.offsets.now (n - 1)) c.of_next-offset.result n c.index-self-next.result
    c.index-self-next-2.result c.table.result.now c.table-2.result.now some within c.table.ensures c.table-2.ensures
    (c.of_next-offset.ensures.offset _ _ (is_same_over (n - 1) n _ _ _ c.requires.layout (omega (arith, own)) (omega (arith, own))
    (seen_at parts (n - 1) c.index-self-next.result c.table.result.now (omega arith) c.table.ensures)
    (seen_at parts n c.index-self-next-2.result c.table-2.result.now within c.table-2.ensures) c.is_under_same-same_over.ensures))

many_parts : (c : After-of_next-offset) → length (covered (heavy_in c.args.self.heavy.now) (spans_of c.args.self.parts.now)) ≡ length c.args.self.parts.now
many_parts c = many_covered (heavy_in c.args.self.heavy.now) (spans_of c.args.self.parts.now) ∙ many_shared c.args.self.parts.now

-- the offsets from there on are moved as far
all_moved : (c : After-of_next-offset) → c.args.end ≤ c.args.next → c.of_next-offset.result.start ≡ (offset_at c.args.offsets.now c.args.next).start
    → AreMovable (offset_at c.args.offsets.now c.args.next).place c.of_next-offset.result.place (drop c.args.next c.args.offsets.now)
    × (take c.args.next c.args.offsets.now
    ++ map (moved (offset_at c.args.offsets.now c.args.next).place c.of_next-offset.result.place) (drop c.args.next c.args.offsets.now)
    ≡ offsets_of (covered (heavy_in c.args.self.heavy.now) (spans_of c.args.self.parts.now)))
all_moved c from_end same =
    let parts = c.args.self.parts.now in
    let heavy = heavy_in c.args.self.heavy.now in
    let within = c.requires.within in
    let many = many_parts c in
    moved_right (joined_layers (held_in (spans_of parts)) heavy) (covered heavy (spans_of parts)) c.args.offsets.now c.of_next-offset.result c.args.next
    c.args.end (laid_over c.requires.layout) c.requires.layout.within_limit c.requires.some (omega arith) (c.requires.same_length ∙ sym many)
    c.requires.before c.requires.behind from_end (next_is c) same

-- only that one is put into its place
one_counted : (c : After-of_next-offset)
    → AreCountedTo (covered (heavy_in c.args.self.heavy.now) (spans_of c.args.self.parts.now)) (set c.args.offsets.now c.args.next c.of_next-offset.result)
    (c.args.next + 1) c.args.end
one_counted c =
    let within = c.requires.within in
    let many = many_parts c in
    counted_one (covered (heavy_in c.args.self.heavy.now) (spans_of c.args.self.parts.now)) c.args.offsets.now c.of_next-offset.result c.args.next
    c.args.end c.requires.some (omega arith) (c.requires.same_length ∙ sym many) c.requires.before c.requires.behind (next_is c)

-- ---- what is owed

pub move_from-requires-clause-movable : goal.move_from-requires-clause-movable
move_from-requires-clause-movable c =
    let test = c.if-next-end.true in
    let same = c.if-offset-offsets.true in
    (all_moved (goal.at.move_from-requires-clause-movable c).After-of_next-offset (omega (arith, test)) (omega (arith, same))).0

pub returns-then-offset-offsets-clause-same_length : goal.returns-then-offset-offsets-clause-same_length
returns-then-offset-offsets-clause-same_length c =
    let a = (goal.at.returns-then-offset-offsets-clause-same_length c).After-of_next-offset in
    let test = c.if-next-end.true in
    let same = c.if-offset-offsets.true in
    let shown = covered (heavy_in c.args.self.heavy.now) (spans_of c.args.self.parts.now) in
    ap length (c.move_from.ensures ∙ (all_moved a (omega (arith, test)) (omega (arith, same))).1) ∙ length_offsets first_offset shown ∙ many_parts a

pub returns-then-offset-offsets-clause-before : goal.returns-then-offset-offsets-clause-before
returns-then-offset-offsets-clause-before c =
    let a = (goal.at.returns-then-offset-offsets-clause-before c).After-of_next-offset in
    let test = c.if-next-end.true in
    let same = c.if-offset-offsets.true in
    ap (take (length c.args.self.parts.now)) (c.move_from.ensures ∙ (all_moved a (omega (arith, test)) (omega (arith, same))).1)

pub returns-then-offset-offsets-clause-behind : goal.returns-then-offset-offsets-clause-behind
returns-then-offset-offsets-clause-behind c =
    let a = (goal.at.returns-then-offset-offsets-clause-behind c).After-of_next-offset in
    let parts = c.args.self.parts.now in
    let shown = covered (heavy_in c.args.self.heavy.now) (spans_of parts) in
    let test = c.if-next-end.true in
    let same = c.if-offset-offsets.true in
    subst (λ ps. AreOffsetsFrom (max (length parts) c.args.end) ps shown)
    (sym (c.move_from.ensures ∙ (all_moved a (omega (arith, test)) (omega (arith, same))).1)) (own_behind (max (length parts) c.args.end) shown)

pub returns-else-next-end-clause-before : goal.returns-else-next-end-clause-before
returns-else-next-end-clause-before c = (one_counted (goal.at.returns-else-next-end-clause-before c).After-of_next-offset).before

pub returns-else-next-end-clause-behind : goal.returns-else-next-end-clause-behind
returns-else-next-end-clause-behind c = (one_counted (goal.at.returns-else-next-end-clause-behind c).After-of_next-offset).behind
