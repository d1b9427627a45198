-- Parts of the same tables.
use Rattle.std.proofs.Common.{◌≡◌, ◌≤◌, IfOk, length, sym, ap, ◌∙◌, subst}
use Rattle.std.proofs.lemmas.List.{length-map}
use Rattle.std.specs.Arc.{arc_value}
use Rattle.s2ix_bag_lists.specs.Faces.{all_of}
use Rattle.s2ix_bag_lists.specs.View.{lists_in}
use Rattle.s2ix_bag_pairs.specs.Change.{changed}
use Rattle.s2ix_table_parts.specs.FaceSpans.{spans_of, tables_of}
use Rattle.s2ix_table_parts.specs.Neighbours.{AreNeighbours, held_in}
use Rattle.s2ix_table_parts.specs.Parts.{with_parts}
use Rattle.s2ix_table_parts.proofs.Shared.{alone_spans, many_shared}
use Rattle.s2ix_table_parts.proofs.change.parts_changed.changed_tables.Goals.{After-as_slice}
use Rattle.s2ix_table_parts.proofs.change.parts_changed.changed_tables.Goals as goal

own : (c : After-as_slice) → spans_of c.as_slice.result.now ≡ tables_of c.args.before.now
own c =
    ap spans_of c.as_slice.ensures.value
    ∙ alone_spans c.in_ok-parts.parts.items c.share_under.new.parts.items (tables_of c.args.before.now) c.in_ok-parts.ensures.items
    c.in_ok-share_under.ensures.tables

pub changed_parts-requires-clause-neighbours : goal.changed_parts-requires-clause-neighbours
changed_parts-requires-clause-neighbours c =
    subst (λ ts. AreNeighbours c.args.from ts c.args.to) (sym (own (goal.at-changed_parts-requires-clause-neighbours c).After-as_slice)) c.requires.neighbours

pub changed_parts-requires-clause-made : goal.changed_parts-requires-clause-made
changed_parts-requires-clause-made c =
    ap (λ ts. changed (held_in ts) c.args.entries.now) (own (goal.at-changed_parts-requires-clause-made c).After-as_slice) ∙ c.requires.made

pub returns-clause-within : goal.returns-clause-within
returns-clause-within c =
    let many = sym (many_shared c.as_slice.result.now) ∙ ap length (own (goal.at-returns-clause-within c).After-as_slice)
    ∙ length-map c.args.before.now arc_value in
    subst (λ n. IfOk c.changed_parts.result (λ new. new.end ≤ n)) many c.changed_parts.ensures.within

pub returns-clause-neighbours : goal.returns-clause-neighbours
returns-clause-neighbours c =
    subst (λ ts. IfOk c.changed_parts.result (λ new. AreNeighbours c.args.from (with_parts ts new.first new.end (tables_of new.parts.items)) c.args.to))
    (own (goal.at-returns-clause-neighbours c).After-as_slice) c.changed_parts.ensures.neighbours

pub returns-clause-pairs : goal.returns-clause-pairs
returns-clause-pairs c =
    subst (λ ts. IfOk c.changed_parts.result (λ new. held_in (with_parts ts new.first new.end (tables_of new.parts.items)) ≡ all_of (lists_in c.args.held)))
    (own (goal.at-returns-clause-pairs c).After-as_slice) c.changed_parts.ensures.pairs
