-- Blocks of leaves, and the last parts that begin by them.
use Rattle.std.proofs.Common.{◌≡◌, ℕ, ◌+◌, ◌-◌, ◌*◌, ◌/◌, ◌^◌, ◌<◌, ◌≤◌, inl, inr, List, [], ◌∷◌, length, slice_index_or, ap, arith, AllPairs}
use Rattle.std.proofs.Math.Nat.{add-mul, div-lt_iff_lt-mul, div-mul-le_self, one-le-pow, pow-le-pow_right}
use Rattle.std.proofs.lemmas.Bool.{cases_eq, cases_lt}
use Rattle.s2ix_table_walk.specs.Table.{leaf_end}
use Rattle.s2ix_table_spans.specs.Starts.{IsAmong, IsLastStart}
use Rattle.s2ix_table_faced.specs.AllLeaves.{HaveAllLeaves}

-- so many blocks have all leaves
pub all_leaves : (count shift : ℕ) → shift ≤ 60 → count ≡ leaf_end / 2 ^ shift + 2 → HaveAllLeaves count shift
all_leaves count shift less is =
    let some : 1 ≤ 2 ^ shift = one-le-pow shift 2 (omega arith) in
    let most : 2 ^ shift ≤ 2 ^ 60 = pow-le-pow_right (omega arith) less in
    let low : leaf_end / 2 ^ shift * 2 ^ shift ≤ leaf_end = div-mul-le_self leaf_end (2 ^ shift) in
    let high = (div-lt_iff_lt-mul {k = 2 ^ shift} {x = leaf_end} {y = leaf_end / 2 ^ shift + 1} (omega arith)).0 (omega arith) in
    let both = add-mul (leaf_end / 2 ^ shift) 2 (2 ^ shift) in
    let but_one : count - 1 ≡ leaf_end / 2 ^ shift + 1 = omega arith in
    let same = ap (λ (n : ℕ). n * 2 ^ shift) but_one in
    let whole = ap (λ (n : ℕ). n * 2 ^ shift) is in
    record { all = omega arith; fit = omega arith; small = less }

-- a leaf is in its block
pub record IsInBlock (leaf size block count : ℕ) : Type 0 where
  pub from : block * size + 1 ≤ leaf
  pub to : leaf < (block + 1) * size + 1
  pub listed : block + 1 < count

pub in_block : (leaf shift block count : ℕ) → 1 ≤ leaf → leaf < leaf_end → block ≡ (leaf - 1) / 2 ^ shift → HaveAllLeaves count shift
    → IsInBlock leaf (2 ^ shift) block count
in_block leaf shift block count from within is have =
    let some : 1 ≤ 2 ^ shift = one-le-pow shift 2 (omega arith) in
    let low = div-mul-le_self (leaf - 1) (2 ^ shift) in
    let same = ap (λ b. b * 2 ^ shift) is in
    let high = (div-lt_iff_lt-mul {k = 2 ^ shift} {x = leaf - 1} {y = block + 1} (omega arith)).0 (omega arith) in
    let all = have.all in
    let last = (div-lt_iff_lt-mul {k = 2 ^ shift} {x = leaf - 1} {y = count - 1} (omega arith)).1 (omega arith) in
    record { from = omega arith; to = omega arith; listed = omega arith }

-- ---- the parts from the last one by a number to the last one by a later number

pub some_number : (ns : List ℕ) → slice_index_or ns 0 0 ≡ 1 → 0 < length ns
some_number [] first = absurd (omega arith)
some_number (n ∷ ns) first = omega arith

pub rises_to : (starts : List ℕ) (leaf by to low high : ℕ) → AllPairs (λ a b. a < b) starts → IsLastStart starts by low → by ≤ leaf
    → IsLastStart starts to high → leaf < slice_index_or starts high 0 → low < high
rises_to starts leaf by to low high rises first le last after =
    let begins = first.by in
    let listed = first.within in
    elim (cases_lt low high) [
      | inl less ↦ less
      | inr past ↦
          elim (cases_eq high low) [
            | inl e ↦ (let same = ap (λ n. slice_index_or starts n 0) e in absurd (omega arith))
            | inr ne ↦ (let lt = rises high low 0 (omega (arith, ne)) listed in absurd (omega arith))
          ]
    ]

pub among_before : (starts : List ℕ) (leaf by to low high : ℕ) → AllPairs (λ a b. a < b) starts → IsLastStart starts by low → by ≤ leaf
    → IsLastStart starts to high → leaf < slice_index_or starts high 0 → IsAmong starts leaf low (high - low)
among_before starts leaf by to low high rises first le last after =
    let lt = rises_to starts leaf by to low high rises first le last after in
    let begins = first.by in
    let listed = last.within in
    let end : low + (high - low) ≡ high = omega arith in
    let same = ap (λ n. slice_index_or starts n 0) end in
    record { some = omega arith; within = omega arith; by = omega arith; after = λ less. omega arith }

pub among_last : (starts : List ℕ) (leaf to high : ℕ) → IsLastStart starts to high → leaf < to → slice_index_or starts high 0 ≤ leaf
    → IsAmong starts leaf high 1
among_last starts leaf to high last lt le =
    let listed = last.within in
    record { some = omega arith; within = omega arith; by = le; after = λ less. let next = last.next less in omega arith }
