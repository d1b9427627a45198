use Rattle.std.proofs.Common.{◌≡◌, ℕ, Global, Option, Some, List, [], ◌∷◌, ◌++◌, sym, ap, ◌∙◌, subst, subst₂, arith}
use Rattle.std.proofs.lemmas.List.{map-append}
use Rattle.std.specs.Arc.{arc_value}
use Rattle.std.specs.Option.{IfSome}
use Rattle.std.specs.declared.sync.Arc.{Arc}
use Rattle.s2ix_bag_lists.specs.View.{lists_in}
use Rattle.s2ix_table_spans.specs.SpanTable.{SpanRanges, IsSpanTable}
use Rattle.s2ix_table_parts.specs.FaceSpans.{spans_of, tables_of}
use Rattle.s2ix_table_parts.specs.Neighbours.{AreNeighbours}
use Rattle.s2ix_table_parts.proofs.Parting.{neighbours_more}
use Rattle.s2ix_table_parts.proofs.Cutting.{neighbours_append, changed_in_span}
use Rattle.s2ix_table_parts.proofs.Shared.{many_shared}
use Rattle.s2ix_table_parts.proofs.change.parts_changed.Span.push_changed.Goals as goal

at_some : {X : Type 0} (P : X → Type 0) (o : Option X) (x : X) → o ≡ Some x → IfSome o P → P x
at_some P o x is holds = subst (λ y. IfSome y P) is holds

pub returns-in-Some-clause-neighbours : goal.returns-in-Some-clause-neighbours
returns-in-Some-clause-neighbours c first are =
    let parts = c.args.parts.now.items in
    let part = c.in-Some.part in
    let tables : tables_of (parts ++ part ∷ []) ≡ tables_of parts ++ part.value ∷ [] = map-append arc_value parts (part ∷ []) in
    let all = ap tables_of c.in_ok-push.ensures.items ∙ tables in
    let made = c.in_ok-part.ensures in
    let own = c.args.self in
    let is = c.in-Some.is in
    let begin = at_some (λ (x : Arc SpanRanges Global). x.value.from ≡ own.from) c.in_ok-part.field-0 part is made.begins in
    let end = at_some (λ (x : Arc SpanRanges Global). x.value.to ≡ own.to) c.in_ok-part.field-0 part is made.ends in
    let table = at_some (λ (x : Arc SpanRanges Global). IsSpanTable x.value) c.in_ok-part.field-0 part is made.table in
    subst₂ (λ (xs : List SpanRanges) (n : ℕ). AreNeighbours first xs n) (sym all) end
    (neighbours_more first (tables_of parts) own.from part.value are begin table)

pub parts_over-requires-clause-span : goal.parts_over-requires-clause-span
parts_over-requires-clause-span c =
    let own = c.args.self in
    let count = many_shared own.tables.now in
    let some = c.requires.some in
    changed_in_span (spans_of own.tables.now) (lists_in own.lists) own.entries.now own.from own.to (omega arith) c.requires.changed

pub returns-clause-neighbours : goal.returns-clause-neighbours
returns-clause-neighbours c first are =
    let own = c.args.self in
    let parts = c.args.parts.now.items in
    let made = c.in_ok-made.made.items in
    let tables : tables_of (parts ++ made) ≡ tables_of parts ++ tables_of made = map-append arc_value parts made in
    subst (λ (xs : List SpanRanges). AreNeighbours first xs own.to) (sym (ap tables_of c.in_ok-append.ensures.items ∙ tables))
    (neighbours_append first (tables_of parts) own.from (tables_of made) own.to are c.in_ok-made.ensures.neighbours)
