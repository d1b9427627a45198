-- The search for the range that has a leaf.
use Rattle.std.proofs.Common.{◌≡◌, ℕ, zero, suc, ◌+◌, ◌-◌, ◌/◌, ◌*◌, ◌%◌, ◌<◌, ◌≤◌, inl, inr, List, length, slice_index_or, AllPairs, drop, ap, sym, ◌∙◌, subst, subst₂, arith}
use Rattle.std.proofs.lemmas.Bool.{cases_eq, cases_lt}
use Rattle.s2ix_bag_pairs.specs.Collection.{Collection}
use Rattle.s2ix_table_walk.specs.Stretches.{IsSample}
use Rattle.s2ix_table_walk.specs.Table.{IsTableOver, IsFound}
use Rattle.s2ix_table_walk.proofs.Tables.{limits_rise}
use Rattle.s2ix_table_spans.specs.Starts.{ranges_from, IsAmong, IsLastStart}
use Rattle.s2ix_table_spans.proofs.Ranges.{length_ranges, range_start, range_limit, last_limit}

halves : (n : ℕ) → 1 < n → (0 < n / 2) × (n / 2 < n) × (n / 2 ≤ n - n / 2)
halves n lt = (omega arith, omega arith, omega arith)

pub window_up : (starts : List ℕ) (leaf first size : ℕ) → 1 < size → IsAmong starts leaf first size
    → slice_index_or starts (first + size / 2) 0 ≤ leaf → IsAmong starts leaf (first + size / 2) (size - size / 2)
window_up starts leaf first size lt w by =
    let h = halves size lt in
    let e : first + size / 2 + (size - size / 2) ≡ first + size = omega (arith, h.1) in
    let within = w.within in
    record {
      some = omega (arith, h.1);
      within = omega (arith, e);
      by = by;
      after = λ less. let b = w.after (omega (arith, e)) in let same = ap (λ k. slice_index_or starts k 0) e in omega arith;
    }

pub window_down : (starts : List ℕ) (leaf first size : ℕ) → 1 < size → IsAmong starts leaf first size
    → leaf < slice_index_or starts (first + size / 2) 0 → AllPairs (λ a b. a < b) starts → IsAmong starts leaf first (size - size / 2)
window_down starts leaf first size lt w after rises =
    let h = halves size lt in
    let within = w.within in
    record {
      some = omega (arith, h.1);
      within = omega (arith, h.1);
      by = w.by;
      after = λ less. elim (cases_eq (first + size / 2) (first + (size - size / 2))) [
        | inl e ↦ (let same = ap (λ k. slice_index_or starts k 0) e in omega arith)
        | inr ne ↦ (let r = rises (first + size / 2) (first + (size - size / 2)) 0 (omega (arith, h.2, ne)) less in omega arith)
      ];
    }

-- half of a window, by whether its second half begins by the leaf
pub window_by : (starts : List ℕ) (leaf first size one : ℕ) → 1 < size → IsAmong starts leaf first size
    → (slice_index_or starts (first + size / 2) 0 ≤ leaf → one ≡ 1) → (leaf < slice_index_or starts (first + size / 2) 0 → one ≡ 0)
    → AllPairs (λ a b. a < b) starts → IsAmong starts leaf (first + size / 2 * one) (size - size / 2)
window_by starts leaf first size one lt w by after rises =
    elim (cases_lt leaf (slice_index_or starts (first + size / 2) 0)) [
      | inl less ↦
          (let e : first ≡ first + size / 2 * one = (omega arith) ∙ ap (λ k. first + size / 2 * k) (sym (after less)) in
          subst (λ k. IsAmong starts leaf k (size - size / 2)) e (window_down starts leaf first size lt w less rises))
      | inr le ↦
          (let e : first + size / 2 ≡ first + size / 2 * one = (omega arith) ∙ ap (λ k. first + size / 2 * k) (sym (by le)) in
          subst (λ k. IsAmong starts leaf k (size - size / 2)) e (window_up starts leaf first size lt w le))
    ]

-- ---- the starts of a table

pub starts_odd : (held : Collection) (from to : ℕ) (starts : List ℕ) → IsTableOver held from to (ranges_from held starts to)
    → (k : ℕ) → k < length starts → slice_index_or starts k 0 % 2 ≡ 1
starts_odd held from to starts t k within =
    let n = length_ranges held starts to in
    let odd = t.odd k (omega arith) in
    let e = range_start held starts to k 0 within in
    omega arith

pub starts_rise : (held : Collection) (from to : ℕ) (starts : List ℕ) → IsTableOver held from to (ranges_from held starts to)
    → AllPairs (λ a b. a < b) starts
starts_rise held from to starts t i zero d lt within = absurd (omega arith)
starts_rise held from to starts t i (suc j) d lt within =
    let n = length_ranges held starts to in
    let a = t.rises i (omega arith) in
    let b = limits_rise held from to (ranges_from held starts to) t i j (omega arith) (omega arith) in
    let c = t.next j (suc j) (omega arith) (omega arith) in
    let e = range_start held starts to i d (omega arith) in
    let f = range_start held starts to (suc j) d within in
    omega arith

pub first_start : (held : Collection) (from to : ℕ) (starts : List ℕ) → IsTableOver held from to (ranges_from held starts to)
    → (0 < length starts) × (slice_index_or starts 0 0 ≡ from)
first_start held from to starts t =
    let n = length_ranges held starts to in
    let some = t.some in
    let within : 0 < length starts = omega arith in
    let e = range_start held starts to 0 0 within in
    let f = t.first in
    (within, omega arith)

-- what a search for a leaf asks of starts and of their sample
pub record AreSearchable (starts samples : List ℕ) (leaf : ℕ) : Type 0 where
  pub some : 0 < length starts
  pub rises : AllPairs (λ a b. a < b) starts
  pub first : slice_index_or starts 0 0 ≤ leaf
  pub sampled : IsSample (length starts - 2) (drop 1 starts) samples

pub searchable : (held : Collection) (from to : ℕ) (starts samples xs ys : List ℕ) (leaf : ℕ)
    → IsTableOver held from to (ranges_from held starts to) → from ≤ leaf → IsSample (length starts - 2) (drop 1 starts) samples
    → xs ≡ starts → ys ≡ samples → AreSearchable xs ys leaf
searchable held from to starts samples xs ys leaf t begins sampled same same_sample =
    let first = first_start held from to starts t in
    subst₂ (λ (zs ws : List ℕ). AreSearchable zs ws leaf) (sym same) (sym same_sample) (record {
      some = first.0;
      rises = starts_rise held from to starts t;
      first = omega (arith, first.1, begins);
      sampled = sampled;
    })

pub found_start : (held : Collection) (from to : ℕ) (starts : List ℕ) (leaf k : ℕ) → IsTableOver held from to (ranges_from held starts to)
    → leaf < to → IsLastStart starts leaf k → IsFound (ranges_from held starts to) k leaf
found_start held from to starts leaf k t on l =
    let n = length_ranges held starts to in
    let within = l.within in
    let by = l.by in
    let e = range_start held starts to k 0 within in
    record {
      within = omega arith;
      start = omega arith;
      limit =
          elim (cases_eq (k + 1) (length starts)) [
            | inl last ↦ (let f = last_limit held starts to k last in omega arith)
            | inr ne ↦
                (let less : k + 1 < length starts = omega (arith, ne) in
                let f = range_limit held starts to k (k + 1) 0 (omega arith) less in
                let b = l.next less in
                omega arith)
          ];
    }
