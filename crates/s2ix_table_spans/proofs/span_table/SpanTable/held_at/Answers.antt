use Rattle.std.proofs.Common.{◌≡◌, ◌∷◌, sym, drop, arith, subst}
use Rattle.s2ix_table_walk.specs.Places.{IsPlace}
use Rattle.s2ix_table_spans.specs.Chains.{chain_of}
use Rattle.s2ix_table_spans.specs.SpanTable.{SpanRanges}
use Rattle.s2ix_table_spans.proofs.Chains.{place_within}
use Rattle.s2ix_table_spans.proofs.Tables.{headed}
use Rattle.s2ix_table_spans.proofs.span_table.SpanTable.held_at.Goals as goal

pub at-requires : goal.at-requires
at-requires c =
    let place = subst (λ (v : SpanRanges). IsPlace (chain_of v.held) c.args.place) (sym c.self.view_is) c.requires in
    let lt = place_within c.self.inside.held c.args.place place in
    omega arith

pub returns : goal.returns
returns c =
    let t = c.self.inside in
    subst (λ (v : SpanRanges). chain_of v.held c.args.place ≡ c.at.result ∷ drop 1 (chain_of v.held c.args.place)) c.self.view_is
    (headed t.held t.outer.items c.args.place c.at.result c.self.invariant.size c.self.invariant.outwards c.at.ensures)
