use Rattle.std.proofs.Common.{◌+◌, ◌<◌, ◌≤◌, [], List, Option, Some, drop, length, get_or, refl, sym, ◌∙◌, ap, arith, subst}
use Rattle.std.proofs.lemmas.List.{get_or_default}
use Rattle.s2ix_bag_pairs.specs.Collection.{Collection}
use Rattle.s2ix_table_walk.specs.Places.{IsPlace, LeadsTo}
use Rattle.s2ix_table_walk.proofs.Leads.{leads_some}
use Rattle.s2ix_table_spans.specs.Chains.{chain_of}
use Rattle.s2ix_table_spans.proofs.Chains.{chain_some}
use Rattle.s2ix_table_heavy.specs.HeavyChains.{heavy_chain}
use Rattle.s2ix_table_heavy.specs.declared.heavy_place.HeavyPlace.{HeavyPlace}
use Rattle.s2ix_table_heavy.proofs.Marked.{chunks_of}
use Rattle.s2ix_table_heavy.proofs.HeavyWay.{has_pair, place_there, next_in_chunk, behind_chunk, leads_by_marks}
use Rattle.s2ix_table_heavy.proofs.Kept.{chunk_few, marked}
use Rattle.s2ix_table_heavy.proofs.heavy_table.HeavyTable.outer.Goals as goal

pub index-requires : goal.index-requires
index-requires c =
    let place = subst (λ (chunks : List Collection). IsPlace (heavy_chain chunks) c.args.place) (sym c.self.view_is) c.requires in
    let lt = (has_pair c.self.inside.chunks.items c.args.place place).chunk in
    omega arith

pub overflow_add-result : goal.overflow_add-result
overflow_add-result c =
    let chunks = c.self.inside.chunks.items in
    let place = subst (λ (chunks : List Collection). IsPlace (heavy_chain chunks) c.args.place) (sym c.self.view_is) c.requires in
    let pair = has_pair chunks c.args.place place in
    let node = pair.node in
    let own = chunk_few chunks c.args.place.chunk in
    let within_limit = c.self.invariant.are_chunks.within_limit in
    omega arith

pub outer-requires : goal.outer-requires
outer-requires c =
    let chunks = c.self.inside.chunks.items in
    let place = subst (λ (chunks : List Collection). IsPlace (heavy_chain chunks) c.args.place) (sym c.self.view_is) c.requires in
    let lt = (has_pair chunks c.args.place place).chunk in
    let size = c.self.invariant.are_marks.size in
    chain_some c.self.inside.marks.held c.args.place.chunk (omega arith)

pub returns-then-place-own : goal.returns-then-place-own
returns-then-place-own c =
    let chunks = c.self.inside.chunks.items in
    let from = c.args.place in
    let place = subst (λ (chunks : List Collection). IsPlace (heavy_chain chunks) from) (sym c.self.view_is) c.requires in
    let pair = has_pair chunks from place in
    let own = c.as_slice-own.ensures ∙ c.index.ensures ∙ get_or_default chunks from.chunk c.index.result.now [] pair.chunk in
    let len = ap (λ (list : Collection). length list) own in
    let next : HeavyPlace = record { chunk = from.chunk; node = from.node + 1 } in
    let all = marked chunks c.self.inside.marks c.self.invariant in
    let lt : from.node + 1 < length (get_or chunks from.chunk []) = let less = c.if-place-own.true in omega arith in
    let is = next_in_chunk chunks c.self.inside.marks.held from next all place refl refl lt in
    let some = place_there chunks next c.self.invariant.are_chunks lt in
    let rest = drop 1 (heavy_chain chunks from) in
    let leads = leads_some (heavy_chain chunks) next rest is (subst (λ (list : Collection). 0 < length list) is some) in
    subst (λ (chunks : List Collection). LeadsTo (heavy_chain chunks) (Some next) (drop 1 (heavy_chain chunks from))) c.self.view_is leads

pub returns-else-place-own : goal.returns-else-place-own
returns-else-place-own c =
    let chunks = c.self.inside.chunks.items in
    let marks = c.self.inside.marks.held in
    let from = c.args.place in
    let place = subst (λ (chunks : List Collection). IsPlace (heavy_chain chunks) from) (sym c.self.view_is) c.requires in
    let pair = has_pair chunks from place in
    let own = c.as_slice-own.ensures ∙ c.index.ensures ∙ get_or_default chunks from.chunk c.index.result.now [] pair.chunk in
    let len = ap (λ (list : Collection). length list) own in
    let all = marked chunks c.self.inside.marks c.self.invariant in
    let last : length (get_or chunks from.chunk []) ≤ from.node + 1 = let more = c.if-place-own.false in omega arith in
    let way = leads_by_marks chunks marks c.outer.result (drop 1 (chain_of marks from.chunk)) all c.outer.ensures in
    let rest = chunks_of chunks (drop 1 (chain_of marks from.chunk)) in
    let told = subst (λ (o : Option HeavyPlace). LeadsTo (heavy_chain chunks) o rest) (sym c.first_in_chunk.ensures) way in
    let leads = subst (LeadsTo (heavy_chain chunks) c.first_in_chunk.result) (sym (behind_chunk chunks marks from all place last)) told in
    subst (λ (cs : List Collection). LeadsTo (heavy_chain cs) c.first_in_chunk.result (drop 1 (heavy_chain cs from))) c.self.view_is leads
