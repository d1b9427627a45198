use Rattle.std.proofs.Common.{◌<◌, ◌++◌, length, sym, ◌∙◌, ap, subst}
use Rattle.s2ix_bag_pairs.specs.Collection.{Collection}
use Rattle.s2ix_table_walk.specs.Contents.{contents_at}
use Rattle.s2ix_table_walk.specs.Places.{LeadsTo}
use Rattle.s2ix_table_walk.specs.Table.{range_at}
use Rattle.s2ix_table_spans.specs.SpanTable.{SpanRanges}
use Rattle.s2ix_table_parts.specs.FaceSpans.{spans_of, table_of}
use Rattle.s2ix_table_faced.specs.Layout.{heavy_in}
use Rattle.s2ix_table_faced.specs.PartPlaces.{faced_chain}
use Rattle.s2ix_table_faced.proofs.Behind.{light_leads}
use Rattle.s2ix_table_faced.proofs.Reading.{same_contents}
use Rattle.s2ix_table_faced.proofs.faced_table.FacedTable.first_at.Goals as goal

pub first-requires : goal.first-requires
first-requires c = subst (λ (s : SpanRanges). c.args.own < length s.ranges) (sym c.span.ensures) c.requires.within

pub over-requires : goal.over-requires
over-requires c = c.requires.listed

pub returns-in-Some : goal.returns-in-Some
returns-in-Some c =
    let t = c.args.self.now in
    let contents = same_contents c.args.part c.args.own t.joined c.requires in
    let own = ap (λ (s : SpanRanges). (range_at s.ranges c.args.own).contents) c.span.ensures in
    subst (LeadsTo (faced_chain (spans_of t.parts.items) t.heavy) _) (sym contents)
    (light_leads (spans_of t.parts.items) t.heavy c.args.part c.in-Some.node c.span.result.now _ _ c.span.ensures own c.in-Some.ensures)

pub returns-in-None : goal.returns-in-None
returns-in-None c =
    let t = c.args.self.now in
    let contents = same_contents c.args.part c.args.own t.joined c.requires in
    let own = ap (λ (s : SpanRanges). (range_at s.ranges c.args.own).contents) c.span.ensures in
    let none = sym own ∙ sym c.in-None.ensures.pairs_are in
    let over = contents_at (table_of (spans_of t.parts.items) c.args.part).from (heavy_in t.heavy) in
    subst (LeadsTo (faced_chain (spans_of t.parts.items) t.heavy) c.over.result) (sym (contents ∙ ap (λ (cs : Collection). cs ++ over) none)) c.over.ensures
