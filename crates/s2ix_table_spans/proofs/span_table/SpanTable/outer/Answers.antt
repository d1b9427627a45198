use Rattle.std.proofs.Common.{◌≡◌, sym, drop, arith, subst}
use Rattle.s2ix_table_walk.specs.Places.{IsPlace, LeadsTo}
use Rattle.s2ix_table_spans.specs.Chains.{chain_of}
use Rattle.s2ix_table_spans.specs.SpanTable.{SpanRanges}
use Rattle.s2ix_table_spans.proofs.Chains.{place_within}
use Rattle.s2ix_table_spans.proofs.Tables.{outer_at}
use Rattle.s2ix_table_spans.proofs.span_table.SpanTable.outer.Goals as goal

pub index-requires : goal.index-requires
index-requires c =
    let place = subst (λ (v : SpanRanges). IsPlace (chain_of v.held) c.args.place) (sym c.self.view_is) c.requires in
    let lt = place_within c.self.inside.held c.args.place place in
    let n = c.self.invariant.size in
    omega arith

pub returns : goal.returns
returns c =
    let t = c.self.inside in
    let place = subst (λ (v : SpanRanges). IsPlace (chain_of v.held) c.args.place) (sym c.self.view_is) c.requires in
    let lt = place_within t.held c.args.place place in
    let chain = outer_at t.held t.outer.items c.args.place c.index.result.now c.self.invariant.size c.self.invariant.outwards lt c.index.ensures in
    let is = subst (λ (v : SpanRanges). chain_of v.held c.index.result.now ≡ drop 1 (chain_of v.held c.args.place)) c.self.view_is chain in
    subst (LeadsTo (chain_of c.args.self.now.held) c.as_place.result) is c.as_place.ensures
