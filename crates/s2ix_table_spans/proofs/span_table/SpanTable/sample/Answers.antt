use Rattle.std.proofs.Common.{◌-◌, ℕ, List, length, map, drop, sym, subst}
use Rattle.s2ix_table_walk.specs.Table.{Range}
use Rattle.s2ix_table_walk.specs.Stretches.{IsSample}
use Rattle.s2ix_table_spans.specs.SpanTable.{SpanRanges}
use Rattle.s2ix_table_spans.specs.Starts.{ranges_from}
use Rattle.s2ix_table_spans.proofs.Ranges.{all_starts, length_ranges}
use Rattle.s2ix_table_spans.proofs.span_table.SpanTable.sample.Goals as goal

pub returns : goal.returns
returns c =
    let t = c.self.inside in
    let starts = sym (all_starts t.held t.starts.items t.to) in
    let many = sym (length_ranges t.held t.starts.items t.to) in
    let own = subst (IsSample (length t.starts.items - 2) (drop 1 t.starts.items)) (sym c.as_slice.ensures.value) t.sampled in
    let count = subst (λ (n : ℕ). IsSample (n - 2) (drop 1 t.starts.items) c.as_slice.result.now) many own in
    subst (λ (v : SpanRanges). IsSample (length v.ranges - 2) (drop 1 (map (λ (r : Range). r.start) v.ranges)) c.as_slice.result.now)
    c.self.view_is
    (subst (λ (xs : List ℕ). IsSample (length (ranges_from t.held t.starts.items t.to) - 2) (drop 1 xs) c.as_slice.result.now) starts count)
