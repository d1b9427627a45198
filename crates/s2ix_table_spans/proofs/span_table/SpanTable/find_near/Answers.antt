use Rattle.std.proofs.Common.{◌≡◌, ℕ, ◌%◌, ◌<◌, List, AllPairs, length, slice_index_or, sym, subst}
use Rattle.s2id_core.specs.CellId.{raw_of}
use Rattle.s2ix_table_walk.specs.Table.{IsFound}
use Rattle.s2ix_table_spans.specs.SpanTable.{SpanRanges}
use Rattle.s2ix_table_spans.specs.Starts.{IsLastStart}
use Rattle.s2ix_table_spans.proofs.Windows.{starts_rise, starts_odd, found_start}
use Rattle.s2ix_table_spans.proofs.span_table.SpanTable.find_near.Goals as goal

pub last_ahead-requires-clause-rises : goal.last_ahead-requires-clause-rises
last_ahead-requires-clause-rises c =
    let t = c.self.inside in
    let same : c.as_slice.result.now ≡ t.starts.items = c.as_slice.ensures.value in
    subst (AllPairs (λ a b. a < b)) (sym same) (starts_rise t.held t.from t.to t.starts.items c.self.invariant.table)

pub last_ahead-requires-clause-odd : goal.last_ahead-requires-clause-odd
last_ahead-requires-clause-odd c =
    let t = c.self.inside in
    let same : c.as_slice.result.now ≡ t.starts.items = c.as_slice.ensures.value in
    subst (λ (xs : List ℕ). (k : ℕ) → k < length xs → slice_index_or xs k 0 % 2 ≡ 1) (sym same)
    (starts_odd t.held t.from t.to t.starts.items c.self.invariant.table)

pub returns-then-index-raw : goal.returns-then-index-raw
returns-then-index-raw c =
    let t = c.self.inside in
    let k = c.last_ahead.result in
    let raw = c.raw-then-index-raw.result in
    let same : c.as_slice.result.now ≡ t.starts.items = c.as_slice.ensures.value in
    let ends = subst (λ (v : SpanRanges). raw_of c.args.leaf < v.to) (sym c.self.view_is) c.requires.ends in
    let last : IsLastStart t.starts.items raw k = subst (λ (xs : List ℕ). IsLastStart xs raw k) same c.last_ahead.ensures in
    subst (λ (v : SpanRanges). IsFound v.ranges k (raw_of c.args.leaf)) c.self.view_is
    (found_start t.held t.from t.to t.starts.items (raw_of c.args.leaf) k c.self.invariant.table ends
    (subst (λ r. IsLastStart t.starts.items r k) c.raw-then-index-raw.ensures last))
