use Rattle.std.proofs.Common.{◌≡◌, ℕ, ◌<◌, ◌≤◌, List, sym, arith, subst}
use Rattle.s2id_core.specs.CellId.{raw_of}
use Rattle.s2ix_table_walk.specs.Table.{IsFound}
use Rattle.s2ix_table_spans.specs.SpanTable.{SpanRanges}
use Rattle.s2ix_table_spans.specs.Starts.{IsLastStart}
use Rattle.s2ix_table_spans.proofs.Windows.{found_start, searchable}
use Rattle.s2ix_table_spans.proofs.span_table.SpanTable.find.Goals as goal

pub last_start-requires : goal.last_start-requires
last_start-requires c =
    let t = c.self.inside in
    let begins = subst (λ (v : SpanRanges). v.from ≤ raw_of c.args.leaf) (sym c.self.view_is) c.requires.begins in
    let at : t.from ≤ c.raw.result = omega (arith, c.raw.ensures, begins) in
    let is = searchable t.held t.from t.to t.starts.items t.sample.items c.as_slice.result.now c.as_slice-2.result.now c.raw.result
    c.self.invariant.table at t.sampled c.as_slice.ensures.value c.as_slice-2.ensures.value in
    record { some = is.some; rises = is.rises; first = is.first; sample = is.sampled }

pub returns : goal.returns
returns c =
    let t = c.self.inside in
    let k = c.last_start.result in
    let same : c.as_slice.result.now ≡ t.starts.items = c.as_slice.ensures.value in
    let ends = subst (λ (v : SpanRanges). raw_of c.args.leaf < v.to) (sym c.self.view_is) c.requires.ends in
    let last : IsLastStart t.starts.items c.raw.result k = subst (λ (xs : List ℕ). IsLastStart xs c.raw.result k) same c.last_start.ensures in
    subst (λ (v : SpanRanges). IsFound v.ranges k (raw_of c.args.leaf)) c.self.view_is
    (found_start t.held t.from t.to t.starts.items (raw_of c.args.leaf) k c.self.invariant.table ends (subst (λ r. IsLastStart t.starts.items r k) c.raw.ensures last))
