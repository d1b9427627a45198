use Rattle.std.proofs.Common.{◌≡◌, ◌<◌, ◌∷◌, drop, length, sym, subst}
use Rattle.s2ix_bag_pairs.specs.Collection.{Collection}
use Rattle.s2ix_table_walk.specs.Contents.{contents_at}
use Rattle.s2ix_table_parts.specs.FaceSpans.{spans_of, table_of}
use Rattle.s2ix_table_faced.specs.Layout.{heavy_in}
use Rattle.s2ix_table_faced.specs.PartPlaces.{chain_from}
use Rattle.s2ix_table_faced.proofs.Behind.{behind_first, behind_length}
use Rattle.s2ix_table_faced.proofs.Reading.{chain_read, part_of_place}
use Rattle.s2ix_table_faced.proofs.faced_table.FacedTable.light_at.Goals as goal

pub span-requires : goal.span-requires
span-requires c = part_of_place _ _ _ (behind_length _ _ c.requires)

pub held_at-requires : goal.held_at-requires
held_at-requires c = subst (λ (hs : Collection). 0 < length hs) (sym (chain_read _ _ _ c.span.ensures)) (behind_length _ _ c.requires)

pub returns : goal.returns
returns c =
    let t = c.args.self.now in
    let spans = spans_of t.parts.items in
    let place = c.args.place in
    behind_first c.held_at.result (chain_from spans place) (contents_at (table_of spans place.part).from (heavy_in t.heavy))
    (subst (λ (hs : Collection). hs ≡ c.held_at.result ∷ drop 1 hs) (chain_read _ _ _ c.span.ensures) c.held_at.ensures)
