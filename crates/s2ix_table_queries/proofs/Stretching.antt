-- Ranges of any table, read by where they begin.
use Rattle.std.proofs.Common.{◌≡◌, ℕ, ◌+◌, ◌-◌, ◌*◌, ◌/◌, ◌%◌, ◌<◌, List, length, slice_index_or, sym, ◌∙◌, ap, arith}
use Rattle.s2ix_bag_pairs.specs.Collection.{Collection}
use Rattle.s2ix_table_walk.specs.Table.{Range, range_at, IsRangeTable}
use Rattle.s2ix_table_walk.proofs.WalkSteps.{range_fits}
use Rattle.s2ix_table_walk.specs.Stretches.{IsSample, IsStretch}

-- what a wrapped difference below a count tells, where nothing wraps at the end
unwrapped : (first k count own : ℕ) → k < 18446744073709551616 → first + count < 18446744073709551616
    → own ≡ (k + (18446744073709551616 - first)) % 18446744073709551616 → own < count → first + own ≡ k
unwrapped first k count own fits end is lt = omega arith

-- a range by its place in a stretch
pub record IsNear (ranges : List Range) (starts : List ℕ) (k own : ℕ) : Type 0 where
  pub start : slice_index_or starts own 0 ≡ (range_at ranges k).start
  pub limit : slice_index_or starts (own + 1) 0 ≡ (range_at ranges k).limit

pub near_is : (hs : Collection) (ranges : List Range) (first count : ℕ) (starts : List ℕ) (k own : ℕ) → IsRangeTable hs ranges
    → IsStretch ranges first count starts → k < 18446744073709551616 → own ≡ (k + (18446744073709551616 - first)) % 18446744073709551616
    → own < count → IsNear ranges starts k own
near_is hs ranges first count starts k own t s fits is lt =
    let within = s.within in
    let last = range_fits hs ranges t (length ranges - 1) (omega arith) in
    let e = unwrapped first k count own fits (omega arith) is lt in
    record {
      start = sym (s.begins own lt) ∙ ap (λ n. (range_at ranges n).start) e;
      limit = sym (s.ends own lt) ∙ ap (λ n. (range_at ranges n).limit) e;
    }

-- a start of a sample, by its place among all of them
pub sampled : (count : ℕ) (starts sample : List ℕ) (own : ℕ) → IsSample count starts sample → own % 16 ≡ 15 → own / 16 < length sample
    → (own < count) × (slice_index_or sample (own / 16) 0 ≡ slice_index_or starts own 0)
sampled count starts sample own is whole lt =
    let e : own / 16 * 16 + 15 ≡ own = omega arith in
    let within = is.within (own / 16) lt in
    (omega arith, is.each (own / 16) lt ∙ ap (λ k. slice_index_or starts k 0) e)
