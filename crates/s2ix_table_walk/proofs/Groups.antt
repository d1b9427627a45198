-- The groups of ranges among which a search in a large table looks.
use Rattle.std.proofs.Common.{◌≡◌, ℕ, suc, ◌+◌, ◌-◌, ◌*◌, ◌/◌, ◌<◌, ◌≤◌, ◌^◌, inl, inr, List, length, ap, arith}
use Rattle.std.proofs.Math.Nat.{pow-suc, one-le-pow}
use Rattle.std.proofs.lemmas.Bool.{cases_lt}
use Rattle.s2id_core.specs.BinaryDigits.{binary_digits}
use Rattle.s2id_core.proofs.BinaryDigits.{digits_above, digits_below, digits_rise, digits_step}
use Rattle.s2ix_bag_pairs.specs.Collection.{Collection}
use Rattle.s2ix_table_walk.specs.Table.{Range, range_at, IsRangeTable}
use Rattle.s2ix_table_walk.specs.Searching.{AreGroups, IsWindow}
use Rattle.s2ix_table_walk.proofs.WalkSteps.{ranges_follow}

-- no range begins before an earlier one
start_by : (hs : Collection) (ranges : List Range) (i j : ℕ) → IsRangeTable hs ranges → i ≤ j → j < length ranges
    → (range_at ranges i).start ≤ (range_at ranges j).start
start_by hs ranges i j t le lt =
    elim (cases_lt i j) [
      | inl less ↦
          (let follow = ranges_follow hs ranges t i j less lt in
          let rises = t.rises i (omega arith) in
          omega arith)
      | inr past ↦
          (let e : i ≡ j = omega arith in
          let f = ap (λ k. (range_at ranges k).start) e in
          omega arith)
    ]

-- the groups of the ranges of a window, from a range by its first one on
pub all_groups : (hs : Collection) (ranges : List Range) (leaf first size from groups : ℕ) → IsRangeTable hs ranges
    → IsWindow ranges leaf first size → from ≤ first → groups ≡ (first + size - from - 1) / 16 + 1
    → AreGroups ranges leaf from (first + size) groups
all_groups hs ranges leaf first size from groups t window by whole =
    let some = window.some in
    let within = window.within in
    let begins = start_by hs ranges from first t by (omega arith) in
    let start = window.start in
    record {
      some = omega arith;
      before = omega arith;
      within = within;
      start = omega arith;
      limit = λ more. absurd (omega arith);
      stop = window.limit;
    }

-- the groups from the middle on
pub upper_groups : (ranges : List Range) (leaf first end groups : ℕ) → AreGroups ranges leaf first end groups → 1 < groups
    → (range_at ranges (first + groups / 2 * 16)).start ≤ leaf
    → AreGroups ranges leaf (first + groups / 2 * 16) end (groups - groups / 2)
upper_groups ranges leaf first end groups are many by =
    let before = are.before in
    let e : first + groups / 2 * 16 + (groups - groups / 2) * 16 ≡ first + groups * 16 = omega arith in
    let f = ap (λ k. (range_at ranges k).start) e in
    record {
      some = omega arith;
      before = omega arith;
      within = are.within;
      start = by;
      limit = λ left. let l = are.limit (omega arith) in omega arith;
      stop = are.stop;
    }

-- the groups before the middle, and one more if their number is odd
pub lower_groups : (hs : Collection) (ranges : List Range) (leaf first end groups : ℕ) → IsRangeTable hs ranges
    → AreGroups ranges leaf first end groups → 1 < groups → leaf < (range_at ranges (first + groups / 2 * 16)).start
    → AreGroups ranges leaf first end (groups - groups / 2)
lower_groups hs ranges leaf first end groups t are many after =
    let before = are.before in
    let within = are.within in
    record {
      some = omega arith;
      before = omega arith;
      within = within;
      start = are.start;
      limit = λ left.
          let rise = start_by hs ranges (first + groups / 2 * 16) (first + (groups - groups / 2) * 16) t (omega arith) (omega arith) in
          omega arith;
      stop = are.stop;
    }

-- groups of 16 take four probes more than their number does
digits_of_groups : (n : ℕ) → 0 < n → binary_digits (n * 16 - 1) ≡ binary_digits (n - 1) + 4
digits_of_groups n some =
    let a = digits_step (n * 16 - 1) (omega arith) in
    let b = digits_step (n * 8 - 1) (omega arith) in
    let c = digits_step (n * 4 - 1) (omega arith) in
    let d = digits_step (n * 2 - 1) (omega arith) in
    let e = ap binary_digits (let s : (n * 16 - 1) / 2 ≡ n * 8 - 1 = omega arith in s) in
    let f = ap binary_digits (let s : (n * 8 - 1) / 2 ≡ n * 4 - 1 = omega arith in s) in
    let g = ap binary_digits (let s : (n * 4 - 1) / 2 ≡ n * 2 - 1 = omega arith in s) in
    let h = ap binary_digits (let s : (n * 2 - 1) / 2 ≡ n - 1 = omega arith in s) in
    omega arith

-- halving the groups and then one of them takes no more probes than halving all ranges, if there is room for the groups
pub groups_pay : (k power size groups last : ℕ) → power ≡ 2 ^ k → 2 ^ k ≤ size - 1 → groups ≤ power / 8 → 1 ≤ groups → last ≤ 16
    → binary_digits (groups - 1) + binary_digits (last - 1) ≤ binary_digits (size - 1)
groups_pay k power size groups last is within room some within_limit =
    let twice = pow-suc 2 k in
    let least = one-le-pow k 2 (omega arith) in
    let above = digits_above k (size - 1) within in
    let below = digits_below k in
    let next = digits_below (suc k) in
    let rise = digits_rise (groups * 16 - 1) (2 ^ suc k - 1) (omega arith) in
    let own = digits_of_groups groups some in
    let four : binary_digits 15 ≡ 4 = digits_below 4 in
    let end = digits_rise (last - 1) 15 (omega arith) in
    omega arith
