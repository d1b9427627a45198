use Rattle.std.proofs.Common.{◌≡◌, ◌<◌, ◌∷◌, [], List, Some, drop, length, slice_get, sym, ◌∙◌, arith, subst}
use Rattle.std.proofs.lemmas.List.{get_or_default}
use Rattle.s2ix_bag_pairs.specs.Collection.{Collection}
use Rattle.s2ix_table_walk.specs.Places.{IsPlace}
use Rattle.s2ix_table_heavy.specs.HeavyChains.{heavy_chain}
use Rattle.s2ix_table_heavy.proofs.HeavyWay.{has_pair, heavy_headed}
use Rattle.s2ix_table_heavy.proofs.heavy_table.HeavyTable.held_at.Goals as goal

pub index-requires : goal.index-requires
index-requires c =
    let place = subst (λ (chunks : List Collection). IsPlace (heavy_chain chunks) c.args.place) (sym c.self.view_is) c.requires in
    let lt = (has_pair c.self.inside.chunks.items c.args.place place).chunk in
    omega arith

pub at-requires : goal.at-requires
at-requires c =
    let chunks = c.self.inside.chunks.items in
    let k = c.args.place.chunk in
    let place = subst (λ (chunks : List Collection). IsPlace (heavy_chain chunks) c.args.place) (sym c.self.view_is) c.requires in
    let pair = has_pair chunks c.args.place place in
    let own = c.index.ensures ∙ get_or_default chunks k c.index.result.now [] pair.chunk in
    subst (λ (list : Collection). c.args.place.node < length list) (sym own) pair.node

pub returns : goal.returns
returns c =
    let chunks = c.self.inside.chunks.items in
    let k = c.args.place.chunk in
    let place = subst (λ (chunks : List Collection). IsPlace (heavy_chain chunks) c.args.place) (sym c.self.view_is) c.requires in
    let pair = has_pair chunks c.args.place place in
    let own = c.index.ensures ∙ get_or_default chunks k c.index.result.now [] pair.chunk in
    let is = subst (λ (list : Collection). slice_get list c.args.place.node ≡ Some c.at.result) own c.at.ensures in
    subst (λ (chunks : List Collection). heavy_chain chunks c.args.place ≡ c.at.result ∷ drop 1 (heavy_chain chunks c.args.place)) c.self.view_is
    (heavy_headed chunks c.args.place c.at.result c.self.invariant.are_chunks is)
