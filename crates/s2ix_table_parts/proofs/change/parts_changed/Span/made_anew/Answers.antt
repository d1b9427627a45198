use Rattle.std.proofs.Common.{ℕ, List, ◌++◌, length, take, drop, sym, ap, ◌∙◌, subst, subst₂, arith, append_assoc}
use Rattle.std.proofs.lemmas.List.{length-drop, drop-drop}
use Rattle.s2ix_bag_lists.specs.Faces.{all_of}
use Rattle.s2ix_bag_lists.specs.View.{lists_in}
use Rattle.s2ix_bag_pairs.specs.Collection.{Collection}
use Rattle.s2ix_bag_pairs.specs.declared.pair.Entry.{Entry}
use Rattle.s2ix_table_spans.specs.SpanTable.{SpanRanges}
use Rattle.s2ix_table_parts.specs.FaceSpans.{spans_of, tables_of}
use Rattle.s2ix_table_parts.specs.Neighbours.{AreNeighbours, held_in}
use Rattle.s2ix_table_parts.specs.Parts.{AreBegins}
use Rattle.s2ix_table_parts.proofs.Parting.{split_lists}
use Rattle.s2ix_table_parts.proofs.Cutting.{begins_count, begins_later, changed_same, spans_taken, spans_dropped, neighbours_append, held_append}
use Rattle.s2ix_table_parts.proofs.Shared.{many_shared}
use Rattle.s2ix_table_parts.proofs.change.parts_changed.Span.made_anew.Goals as goal

pub push_changed-requires-clause-changed : goal.push_changed-requires-clause-changed
push_changed-requires-clause-changed c =
    let rest = c.loop-rest.rest in
    let cut = c.first_cut-cut.result in
    let own = c.before-in-loop-rest.result in
    let is = c.before-in-loop-rest.ensures in
    changed_same (take cut.tables (spans_of rest.tables.now)) (spans_of own.tables.now) (take cut.lists (lists_in rest.lists)) (lists_in own.lists)
    (take cut.entries rest.entries.now) own.entries.now rest.from own.from cut.seam own.to c.first_cut-cut.ensures.cut.own
    (ap spans_of is.tables ∙ spans_taken cut.tables rest.tables.now) is.lists is.entries is.from is.to

pub split_at-requires : goal.split_at-requires
split_at-requires c =
    let rest = c.loop-rest.rest in
    let many = begins_count rest.entries.now c.loop-rest.begins.now c.loop-rest.invariant.1 in
    let fit = c.first_cut-cut.ensures.cut.entries_fit in
    omega arith

pub loop-rest-preserved : goal.loop-rest-preserved
loop-rest-preserved c =
    let rest = c.loop-rest.rest in
    let was = c.loop-rest.invariant in
    let cut = c.first_cut-cut.result in
    let is_cut = c.first_cut-cut.ensures.cut in
    let own = c.before-in-loop-rest.result in
    let own_is = c.before-in-loop-rest.ensures in
    let later = c.after-rest.result in
    let is = c.after-rest.ensures in
    let old = tables_of c.loop-rest.parts.items in
    let new = tables_of c.push_changed.new.parts.items in
    let pushed = c.in_ok-push_changed.ensures in
    let from = c.args.self.from in
    let fit = is_cut.tables_fit in
    let many = many_shared rest.tables.now in
    let tables = was.6 in
    let left = ap length tables in
    let behind = length-drop c.loop-rest.count c.args.self.tables.now in
    let changed_is =
    changed_same (drop cut.tables (spans_of rest.tables.now)) (spans_of later.tables.now) (drop cut.lists (lists_in rest.lists)) (lists_in later.lists)
    (drop cut.entries rest.entries.now) later.entries.now cut.seam later.from rest.to later.to is_cut.later
    (ap spans_of is.tables ∙ spans_dropped cut.tables rest.tables.now) is.lists is.entries is.from is.to in
    let begins =
    subst₂ (λ (es : List Entry) (bs : List ℕ). AreBegins es bs) (sym is.entries) (sym c.split_at.ensures.back)
    (begins_later cut.entries rest.entries.now c.loop-rest.begins.now is_cut.entries_fit was.1) in
    let neighbours : AreNeighbours from new later.from =
    subst (λ (n : ℕ). AreNeighbours from new n) (own_is.to ∙ sym is.from)
    (pushed.neighbours from (subst (λ (n : ℕ). AreNeighbours from old n) (sym own_is.from) was.2)) in
    let pairs =
    ap (λ (hs : Collection). hs ++ all_of (lists_in later.lists)) (pushed.pairs ∙ ap (λ (ls : List Collection). held_in old ++ all_of ls) own_is.lists)
    ∙ ap (λ (ls : List Collection). held_in old ++ all_of (take cut.lists (lists_in rest.lists)) ++ all_of ls) is.lists
    ∙ append_assoc (held_in old) (all_of (take cut.lists (lists_in rest.lists))) (all_of (drop cut.lists (lists_in rest.lists)))
    ∙ ap (λ (hs : Collection). held_in old ++ hs) (split_lists cut.lists (lists_in rest.lists))
    ∙ was.3 in
    (changed_is, begins, neighbours, pairs, is.to ∙ was.4, omega (arith, was.5), is.tables ∙ ap (drop cut.tables) tables ∙ drop-drop cut.tables c.loop-rest.count c.args.self.tables.now)

pub returns-clause-neighbours : goal.returns-clause-neighbours
returns-clause-neighbours c =
    let own = c.args.self in
    let spans = spans_of own.tables.now in
    let rest = c.loop-rest.rest in
    let was = c.loop-rest.invariant in
    let made = tables_of c.loop-rest.parts.items in
    let count = c.loop-rest.count in
    let same = ap spans_of was.6 ∙ spans_dropped count own.tables.now in
    let back : AreNeighbours rest.from (drop count spans) own.to =
    subst₂ (λ (ts : List SpanRanges) (n : ℕ). AreNeighbours rest.from ts n) same was.4 was.0.neighbours in
    neighbours_append own.from made rest.from (drop count spans) own.to was.2 back

pub returns-clause-pairs : goal.returns-clause-pairs
returns-clause-pairs c =
    let own = c.args.self in
    let spans = spans_of own.tables.now in
    let was = c.loop-rest.invariant in
    let made = tables_of c.loop-rest.parts.items in
    let count = c.loop-rest.count in
    let same = ap spans_of was.6 ∙ spans_dropped count own.tables.now in
    let last = ap held_in (sym same) ∙ c.is_done.ensures.pairs c.loop-rest-test.false in
    held_append made (drop count spans) ∙ ap (λ (hs : Collection). held_in made ++ hs) last ∙ was.3
