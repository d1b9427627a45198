use Rattle.std.proofs.Common.{◌<◌, ◌++◌, drop, length, sym, ◌∙◌, ap, subst}
use Rattle.s2ix_bag_pairs.specs.Collection.{Collection}
use Rattle.s2ix_table_walk.specs.Contents.{contents_at}
use Rattle.s2ix_table_walk.specs.Places.{LeadsTo}
use Rattle.s2ix_table_parts.specs.FaceSpans.{spans_of, table_of}
use Rattle.s2ix_table_faced.specs.Layout.{heavy_in}
use Rattle.s2ix_table_faced.specs.PartPlaces.{chain_from, faced_chain}
use Rattle.s2ix_table_faced.proofs.Behind.{behind_length, drop_behind, light_leads}
use Rattle.s2ix_table_faced.proofs.Reading.{chain_read, part_of_place}
use Rattle.s2ix_table_faced.proofs.faced_table.FacedTable.outer_of.Goals as goal

pub span-requires : goal.span-requires
span-requires c = part_of_place _ _ _ (behind_length _ _ c.requires)

pub over-requires : goal.over-requires
over-requires c = part_of_place _ _ _ (behind_length _ _ c.requires)

pub outer-requires : goal.outer-requires
outer-requires c = subst (λ (hs : Collection). 0 < length hs) (sym (chain_read _ _ _ c.span.ensures)) (behind_length _ _ c.requires)

pub returns-in-Some : goal.returns-in-Some
returns-in-Some c =
    let t = c.args.self.now in
    let spans = spans_of t.parts.items in
    let rest = drop_behind (chain_from spans c.args.place) (contents_at (table_of spans c.args.place.part).from (heavy_in t.heavy)) (behind_length _ _ c.requires) in
    subst (LeadsTo (faced_chain spans t.heavy) _) (sym rest)
    (light_leads spans t.heavy c.args.place.part c.in-Some.node c.span.result.now _ _ c.span.ensures
    (ap (λ (hs : Collection). drop 1 hs) (chain_read _ _ _ c.span.ensures)) c.in-Some.ensures)

pub returns-in-None : goal.returns-in-None
returns-in-None c =
    let t = c.args.self.now in
    let spans = spans_of t.parts.items in
    let over = contents_at (table_of spans c.args.place.part).from (heavy_in t.heavy) in
    let rest = drop_behind (chain_from spans c.args.place) over (behind_length _ _ c.requires) in
    let none = ap (λ (hs : Collection). drop 1 hs) (sym (chain_read _ _ _ c.span.ensures)) ∙ sym c.in-None.ensures.pairs_are in
    subst (LeadsTo (faced_chain spans t.heavy) c.over.result) (sym (rest ∙ ap (λ (cs : Collection). cs ++ over) none)) c.over.ensures
