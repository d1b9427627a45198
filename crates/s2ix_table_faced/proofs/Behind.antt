-- Chains that go on behind a part, among the heavy pairs over it.
use Rattle.std.proofs.Common.{◌≡◌, ℕ, ◌<◌, Some, List, [], ◌∷◌, ◌++◌, length, drop, refl, sym, ◌∙◌, ap, arith}
use Rattle.s2ix_bag_pairs.specs.Collection.{Collection}
use Rattle.s2ix_bag_pairs.specs.declared.pair.Held.{Held}
use Rattle.s2ix_table_walk.specs.Contents.{contents_at}
use Rattle.s2ix_table_walk.specs.Places.{LeadsTo}
use Rattle.s2ix_table_walk.proofs.Leads.{leads_some}
use Rattle.s2ix_table_spans.specs.Chains.{chain_of}
use Rattle.s2ix_table_spans.specs.SpanTable.{SpanRanges}
use Rattle.s2ix_table_faced.specs.declared.part_place.FacedPlace.TheVariants.{Light}
use Rattle.s2ix_table_faced.specs.declared.part_place.PartPlace.{PartPlace}
use Rattle.s2ix_table_parts.specs.FaceSpans.{table_of}
use Rattle.s2ix_table_faced.specs.Layout.{heavy_in}
use Rattle.s2ix_table_faced.specs.PartPlaces.{chain_from, faced_chain, with_behind}

pub behind_some : (hs over : Collection) → 0 < length hs → with_behind hs over ≡ hs ++ over
behind_some [] over some = absurd (omega arith)
behind_some (h ∷ hs) over some = refl

pub behind_length : (hs over : Collection) → 0 < length (with_behind hs over) → 0 < length hs
behind_length [] over some = some
behind_length (h ∷ hs) over some = omega arith

pub drop_behind : (hs over : Collection) → 0 < length hs → drop 1 (with_behind hs over) ≡ drop 1 hs ++ over
drop_behind [] over some = absurd (omega arith)
drop_behind (h ∷ hs) over some = refl

pub behind_first : (h : Held) (hs over : Collection) → hs ≡ h ∷ drop 1 hs → with_behind hs over ≡ h ∷ drop 1 (with_behind hs over)
behind_first h [] over is = absurd (let long = ap length is in omega arith)
behind_first h (k ∷ ks) over is = ap (λ (cs : Collection). cs ++ over) is

-- what a place in a part leads to, the table leads to, and on to the heavy pairs over the part
pub light_leads : (parts : List SpanRanges) (heavy : List (List Collection)) (part node : ℕ) (span : SpanRanges) (found pairs : Collection)
    → span ≡ table_of parts part → found ≡ pairs → LeadsTo (chain_of span.held) (Some node) found
    → LeadsTo (faced_chain parts heavy) (Some (Light (record { part = part; node = node }))) (pairs ++ contents_at (table_of parts part).from (heavy_in heavy))
light_leads parts heavy part node span found pairs is same leads =
    let place : PartPlace = record { part = part; node = node } in
    let over = contents_at (table_of parts part).from (heavy_in heavy) in
    let chain : chain_of span.held node ≡ chain_from parts place = ap (λ (s : SpanRanges). chain_of s.held node) is in
    let are : chain_from parts place ≡ pairs = sym chain ∙ leads.pairs_are ∙ same in
    let long = leads.place node refl in
    let len = ap length chain in
    let some : 0 < length (chain_from parts place) = omega arith in
    let whole : faced_chain parts heavy (Light place) ≡ pairs ++ over = behind_some (chain_from parts place) over some ∙ ap (λ (cs : Collection). cs ++ over) are in
    let more = some_behind (chain_from parts place) over some in
    leads_some (faced_chain parts heavy) (Light place) (pairs ++ over) whole (let e = ap length whole in omega arith)
  where
    some_behind : (hs over : Collection) → 0 < length hs → 0 < length (with_behind hs over)
    some_behind [] over some = some
    some_behind (h ∷ hs) over some = omega arith
