use Rattle.std.proofs.Common.{◌≡◌, ◌-◌, length, sym, ◌∙◌, ap, arith, subst}
use Rattle.s2ix_table_walk.specs.Places.{LeadsTo}
use Rattle.s2ix_table_walk.specs.Table.{range_at}
use Rattle.s2ix_table_spans.specs.Chains.{chain_of}
use Rattle.s2ix_table_spans.specs.SpanTable.{SpanRanges}
use Rattle.s2ix_table_spans.specs.Starts.{ranges_from}
use Rattle.s2ix_table_spans.proofs.Ranges.{length_ranges, range_contents, first_leads}
use Rattle.s2ix_table_spans.proofs.span_table.SpanTable.first_at_end.Goals as goal

pub returns : goal.returns
returns c =
    let t = c.self.inside in
    let starts = t.starts.items in
    let n = length_ranges t.held starts t.to in
    let some = c.self.invariant.table.some in
    let contents = range_contents t.held starts t.to (length starts - 1) 0 (omega arith) in
    let leads = first_leads t.held starts t.firsts.items (length starts - 1) 0 c.self.invariant.leads (omega arith) in
    let last = ap (λ m. (range_at (ranges_from t.held starts t.to) (m - 1)).contents) n in
    let chain = ap (chain_of t.held) (sym t.ends.last) ∙ leads ∙ sym contents ∙ sym last in
    let is = subst (λ (v : SpanRanges). chain_of v.held t.last_place ≡ (range_at v.ranges (length v.ranges - 1)).contents) c.self.view_is chain in
    subst (LeadsTo (chain_of c.args.self.now.held) c.as_place.result) is c.as_place.ensures
