use Rattle.std.proofs.Common.{◌≡◌, ◌<◌, length, sym, ◌∙◌, ap, arith, subst}
use Rattle.s2ix_table_walk.specs.Table.{range_at}
use Rattle.s2ix_table_spans.specs.Chains.{chain_of}
use Rattle.s2ix_table_spans.specs.SpanTable.{SpanRanges}
use Rattle.s2ix_table_spans.proofs.Ranges.{length_ranges, range_contents, first_leads, as_many_firsts}
use Rattle.s2ix_table_spans.proofs.span_table.SpanTable.innermost.Goals as goal

pub index-requires : goal.index-requires
index-requires c =
    let t = c.self.inside in
    let n = length_ranges t.held t.starts.items t.to in
    let m = as_many_firsts t.held t.starts.items t.firsts.items c.self.invariant.leads in
    let lt = subst (λ (v : SpanRanges). c.args.k < length v.ranges) (sym c.self.view_is) c.requires in
    omega arith

pub returns : goal.returns
returns c =
    let t = c.self.inside in
    let k = c.args.k in
    let n = length_ranges t.held t.starts.items t.to in
    let lt = subst (λ (v : SpanRanges). k < length v.ranges) (sym c.self.view_is) c.requires in
    let less : k < length t.starts.items = omega arith in
    let contents = range_contents t.held t.starts.items t.to k c.index.result.now less in
    let leads = first_leads t.held t.starts.items t.firsts.items k c.index.result.now c.self.invariant.leads less in
    let chain = ap (chain_of t.held) c.index.ensures ∙ leads ∙ sym contents in
    subst (λ (v : SpanRanges). chain_of v.held c.index.result.now ≡ (range_at v.ranges k).contents) c.self.view_is chain
