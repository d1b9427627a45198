use Rattle.std.proofs.Common.{◌≡◌, ℕ, ◌+◌, List, ◌++◌, length, take, drop, sym, ap, ◌∙◌, subst, arith}
use Rattle.std.proofs.lemmas.List.{length-drop, drop-drop}
use Rattle.s2ix_bag_lists.specs.Faces.{all_of}
use Rattle.s2ix_bag_lists.specs.View.{lists_in}
use Rattle.s2ix_bag_pairs.specs.Change.{changed}
use Rattle.s2ix_bag_pairs.specs.Collection.{Collection}
use Rattle.s2ix_bag_pairs.specs.declared.pair.Entry.{Entry}
use Rattle.s2ix_table_spans.specs.SpanTable.{SpanRanges}
use Rattle.s2ix_table_parts.specs.FaceSpans.{spans_of, tables_of}
use Rattle.s2ix_table_parts.specs.Neighbours.{AreNeighbours, held_in}
use Rattle.s2ix_table_parts.specs.Parts.{AreBegins}
use Rattle.s2ix_table_parts.proofs.Parting.{split_lists}
use Rattle.s2ix_table_parts.proofs.Cutting.{changed_same, spans_dropped, neighbours_append, held_append}
use Rattle.s2ix_table_parts.proofs.Shared.{many_shared}
use Rattle.s2ix_table_parts.proofs.change.parts_changed.changed_parts.Goals as goal

pub made_anew-requires-clause-changed : goal.made_anew-requires-clause-changed
made_anew-requires-clause-changed c =
    let before = c.args.before.now in
    let front = c.front_cut-front.result in
    let cut = c.front_cut-front.ensures.cut in
    let later = c.after.result in
    let is = c.after.ensures in
    changed_same (drop front.tables (spans_of before)) (spans_of later.tables.now) (drop front.lists (lists_in c.args.held)) (lists_in later.lists)
    (drop front.entries c.args.entries.now) later.entries.now front.seam later.from c.args.to later.to cut.later
    (ap spans_of is.tables ∙ spans_dropped front.tables before) is.lists is.entries is.from is.to

pub made_anew-requires-clause-begins : goal.made_anew-requires-clause-begins
made_anew-requires-clause-begins c =
    let is = c.after.ensures in
    let none = c.front_cut-front.ensures.entries in
    subst (λ (es : List Entry). AreBegins es c.as_slice-2.result.now) (sym (is.entries ∙ ap (λ (n : ℕ). drop n c.args.entries.now) none))
    (subst (λ (bs : List ℕ). AreBegins c.args.entries.now bs) (sym c.as_slice-2.ensures.value) c.in_ok-all_begins.ensures)

pub returns-clause-within : goal.returns-clause-within
returns-clause-within c =
    let front = c.front_cut-front.result in
    let fit = c.front_cut-front.ensures.cut.tables_fit in
    let many = many_shared c.args.before.now in
    let left = ap length c.after.ensures.tables in
    let behind = length-drop front.tables c.args.before.now in
    let own = c.in_ok-count.ensures.within in
    omega arith

pub returns-clause-neighbours : goal.returns-clause-neighbours
returns-clause-neighbours c =
    let spans = spans_of c.args.before.now in
    let front = c.front_cut-front.result in
    let is = c.after.ensures in
    let made = tables_of c.in_ok-count.parts.items in
    let count = c.in_ok-count.count in
    let tail : drop count (spans_of c.after.result.tables.now) ≡ drop (front.tables + count) spans =
    ap (λ ts. drop count ts) (ap spans_of is.tables ∙ spans_dropped front.tables c.args.before.now) ∙ drop-drop count front.tables spans in
    let back =
    subst (λ (ts : List SpanRanges). AreNeighbours front.seam (made ++ ts) c.args.to) tail
    (subst (λ (n : ℕ). AreNeighbours front.seam (made ++ drop count (spans_of c.after.result.tables.now)) n) is.to
    (subst (λ (n : ℕ). AreNeighbours n (made ++ drop count (spans_of c.after.result.tables.now)) c.after.result.to) is.from c.in_ok-count.ensures.neighbours)) in
    neighbours_append c.args.from (take front.tables spans) front.seam (made ++ drop (front.tables + count) spans) c.args.to
    c.front_cut-front.ensures.cut.own.neighbours back

pub returns-clause-pairs : goal.returns-clause-pairs
returns-clause-pairs c =
    let spans = spans_of c.args.before.now in
    let held = lists_in c.args.held in
    let front = c.front_cut-front.result in
    let is = c.after.ensures in
    let made = tables_of c.in_ok-count.parts.items in
    let count = c.in_ok-count.count in
    let tail : drop count (spans_of c.after.result.tables.now) ≡ drop (front.tables + count) spans =
    ap (λ ts. drop count ts) (ap spans_of is.tables ∙ spans_dropped front.tables c.args.before.now) ∙ drop-drop count front.tables spans in
    let first : held_in (take front.tables spans) ≡ all_of (take front.lists held) =
    sym (ap (λ (n : ℕ). changed (held_in (take front.tables spans)) (take n c.args.entries.now)) c.front_cut-front.ensures.entries)
    ∙ c.front_cut-front.ensures.cut.own.made in
    let last = ap (λ (ts : List SpanRanges). held_in (made ++ ts)) (sym tail) ∙ c.in_ok-count.ensures.pairs ∙ ap all_of is.lists in
    held_append (take front.tables spans) (made ++ drop (front.tables + count) spans)
    ∙ ap (λ (hs : Collection). held_in (take front.tables spans) ++ hs) last
    ∙ ap (λ (hs : Collection). hs ++ all_of (drop front.lists held)) first
    ∙ split_lists front.lists held
