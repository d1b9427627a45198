-- The ranges among which a search still looks.
use Rattle.std.proofs.Common.{◌≡◌, ℕ, zero, suc, ◌+◌, ◌-◌, ◌*◌, ◌/◌, ◌^◌, ◌<◌, ◌≤◌, max, inl, inr, List, length, ap, sym, ◌∙◌, subst, arith, refl}
use Rattle.std.proofs.Math.Nat.{pow-suc, max-eq_left, max-eq_right}
use Rattle.std.proofs.lemmas.Bool.{cases_lt}
use Rattle.s2ix_bag_pairs.specs.Collection.{Collection}
use Rattle.s2ix_table_walk.specs.Table.{Range, range_at, leaf_end, IsFound, IsRangeTable}
use Rattle.s2ix_table_walk.proofs.Tables.{limits_rise}
use Rattle.s2ix_table_walk.specs.LeafWindows.{HaveLeaves}
use Rattle.s2ix_table_walk.specs.Searching.{IsWindow}

starts_rise : (hs : Collection) (ranges : List Range) (i j : ℕ) → IsRangeTable hs ranges → i ≤ j → j + 1 < length ranges
    → (range_at ranges (i + 1)).start ≤ (range_at ranges (j + 1)).start
starts_rise hs ranges i j t le lt =
    let a = t.next i (i + 1) refl (omega arith) in
    let b = t.next j (j + 1) refl lt in
    let r = limits_rise hs 1 leaf_end ranges t i j le (omega arith) in
    omega arith

-- the ranges from one on up to an end
window_to : (ranges : List Range) (leaf first end : ℕ) → first < end → end ≤ length ranges → (range_at ranges first).start ≤ leaf
    → (end < length ranges → leaf < (range_at ranges end).start) → IsWindow ranges leaf first (end - first)
window_to ranges leaf first end some within start limit =
    let e : first + (end - first) ≡ end = omega arith in
    let f = ap (λ k. (range_at ranges k).start) e in
    record { some = omega arith; within = omega arith; start = start; limit = λ more. let l = limit (omega arith) in omega arith }

-- what is left of a window is its first half or its second one, and one range more if its size is odd
pub lower_left : (hs : Collection) (ranges : List Range) (leaf first size : ℕ) → IsRangeTable hs ranges → IsWindow ranges leaf first size
    → 1 < size → leaf < (range_at ranges (first + size / 2)).start → IsWindow ranges leaf first (size - size / 2)
lower_left hs ranges leaf first size t w many lt =
    let a = w.within in
    let i : ℕ = first + size / 2 - 1 in
    let j : ℕ = first + (size - size / 2) - 1 in
    let e : i + 1 ≡ first + size / 2 = omega arith in
    let f : j + 1 ≡ first + (size - size / 2) = omega arith in
    let p = ap (λ k. (range_at ranges k).start) e in
    let q = ap (λ k. (range_at ranges k).start) f in
    record {
      some = omega arith;
      within = omega arith;
      start = w.start;
      limit = λ more. let r = starts_rise hs ranges i j t (omega arith) (omega arith) in omega arith;
    }

pub upper_left : (ranges : List Range) (leaf first size : ℕ) → IsWindow ranges leaf first size → 1 < size
    → (range_at ranges (first + size / 2)).start ≤ leaf → IsWindow ranges leaf (first + size / 2) (size - size / 2)
upper_left ranges leaf first size w many le =
    let a = w.within in
    let e : first + size / 2 + (size - size / 2) ≡ first + size = omega arith in
    let f = ap (λ k. (range_at ranges k).start) e in
    record { some = omega arith; within = omega arith; start = le; limit = λ more. let l = w.limit (omega arith) in omega arith }

-- the one range that is left has the leaf
pub found_alone : (hs : Collection) (ranges : List Range) (leaf first size : ℕ) → IsRangeTable hs ranges → IsWindow ranges leaf first size
    → size ≤ 1 → leaf < leaf_end → IsFound ranges first leaf
found_alone hs ranges leaf first size t w one within =
    let some = w.some in
    let fits = w.within in
    let e : first + size ≡ first + 1 = omega arith in
    let f = ap (λ k. (range_at ranges k).start) e in
    record {
      within = omega arith;
      start = w.start;
      limit = elim (cases_lt (first + 1) (length ranges)) [
        | inl more ↦ (let n = t.next first (first + 1) refl more in let l = w.limit (omega arith) in omega arith)
        | inr end ↦ (let l = t.last first (omega arith) in omega arith)
      ];
    }

-- the first half of a window, and the second
pub first_half : (ranges : List Range) (leaf first half : ℕ) → IsWindow ranges leaf first (half * 2) → 0 < half
    → leaf < (range_at ranges (first + half)).start → IsWindow ranges leaf first half
first_half ranges leaf first half w some lt =
    let a = w.within in
    record { some = omega arith; within = omega arith; start = w.start; limit = λ _. lt }

pub second_half : (ranges : List Range) (leaf first half : ℕ) → IsWindow ranges leaf first (half * 2) → 0 < half
    → (range_at ranges (first + half)).start ≤ leaf → IsWindow ranges leaf (first + half) half
second_half ranges leaf first half w some le =
    let a = w.within in
    let e : first + half + half ≡ first + half * 2 = omega arith in
    let f = ap (λ k. (range_at ranges k).start) e in
    record { some = omega arith; within = omega arith; start = le; limit = λ more. let l = w.limit (omega arith) in omega arith }

-- one half of a window, by whether its second half begins by the leaf
pub half_left : (hs : Collection) (ranges : List Range) (leaf first half one : ℕ) → IsRangeTable hs ranges
    → IsWindow ranges leaf first (half * 2) → 0 < half → ((range_at ranges (first + half)).start ≤ leaf → one ≡ 1)
    → (leaf < (range_at ranges (first + half)).start → one ≡ 0) → IsWindow ranges leaf (first + half * one) half
half_left hs ranges leaf first half one t w some by beyond =
    elim (cases_lt leaf (range_at ranges (first + half)).start) [
      | inl lt ↦
          (let is : first + half * one ≡ first = ap (λ (k : ℕ). first + half * k) (beyond lt) ∙ (omega arith) in
          subst (λ (k : ℕ). IsWindow ranges leaf k half) (sym is) (first_half ranges leaf first half w some lt))
      | inr le ↦
          (let is : first + half * one ≡ first + half = ap (λ (k : ℕ). first + half * k) (by le) ∙ (omega arith) in
          subst (λ (k : ℕ). IsWindow ranges leaf k half) (sym is) (second_half ranges leaf first half w some le))
    ]

-- what is left of a power of two, whose half was looked at
pub record IsHalved (ranges : List Range) (leaf first half k : ℕ) : Type 0 where
  pub left : ℕ
  pub fewer : k ≡ left + 1
  pub is : half ≡ 2 ^ left
  pub window : IsWindow ranges leaf first (2 ^ left)

pub halved : (hs : Collection) (ranges : List Range) (leaf first half one k : ℕ) → IsRangeTable hs ranges
    → IsWindow ranges leaf first (2 ^ k) → half ≡ 2 ^ k / 2 → 0 < half → ((range_at ranges (first + half)).start ≤ leaf → one ≡ 1)
    → (leaf < (range_at ranges (first + half)).start → one ≡ 0) → IsHalved ranges leaf (first + half * one) half k
halved hs ranges leaf first half one zero t w is some by beyond = absurd (omega arith)
halved hs ranges leaf first half one (suc j) t w is some by beyond =
    let twice = pow-suc 2 j in
    let same : half ≡ 2 ^ j = omega arith in
    let all : 2 ^ suc j ≡ half * 2 = omega arith in
    record {
      left = j;
      fewer = omega arith;
      is = same;
      window =
          subst (λ (size : ℕ). IsWindow ranges leaf (first + half * one) size) same
          (half_left hs ranges leaf first half one t (subst (λ (size : ℕ). IsWindow ranges leaf first size) all w) some by beyond);
    }

-- as many ranges as there is room for, at the end of some or at their beginning
pub room_left : (hs : Collection) (ranges : List Range) (leaf from size over one : ℕ) → IsRangeTable hs ranges
    → IsWindow ranges leaf from (over + size) → over ≤ size → ((range_at ranges (from + over)).start ≤ leaf → one ≡ 1)
    → (leaf < (range_at ranges (from + over)).start → one ≡ 0) → IsWindow ranges leaf (from + over * one) size
room_left hs ranges leaf from size over one t w less by beyond =
    let all = w.within in
    let begins = w.start in
    elim (cases_lt leaf (range_at ranges (from + over)).start) [
      | inl lt ↦
          (let is : from + over * one ≡ from = ap (λ (k : ℕ). from + over * k) (beyond lt) ∙ (omega arith) in
          subst (λ (k : ℕ). IsWindow ranges leaf k size) (sym is) (record {
            some = omega arith;
            within = omega arith;
            start = begins;
            limit = λ more. elim (cases_lt 0 over) [
              | inl some ↦
                  (let i : ℕ = from + over - 1 in
                  let j : ℕ = from + size - 1 in
                  let e : i + 1 ≡ from + over = omega arith in
                  let f : j + 1 ≡ from + size = omega arith in
                  let r = starts_rise hs ranges i j t (omega arith) (omega arith) in
                  let p = ap (λ k. (range_at ranges k).start) e in
                  let q = ap (λ k. (range_at ranges k).start) f in
                  omega arith)
              | inr none ↦
                  (let e : from + over ≡ from = omega arith in
                  let p = ap (λ k. (range_at ranges k).start) e in
                  absurd (omega arith))
            ];
          }))
      | inr le ↦
          (let is : from + over * one ≡ from + over = ap (λ (k : ℕ). from + over * k) (by le) ∙ (omega arith) in
          let e : from + over + size ≡ from + (over + size) = omega arith in
          let f = ap (λ k. (range_at ranges k).start) e in
          subst (λ (k : ℕ). IsWindow ranges leaf k size) (sym is)
          (record { some = omega arith; within = omega arith; start = le; limit = λ more. let l = w.limit (omega arith) in omega arith }))
    ]

-- a range that begins by a leaf is before an end that comes after that leaf
pub begins_before : (hs : Collection) (ranges : List Range) (leaf until end from : ℕ) → IsRangeTable hs ranges → leaf < until
    → (end < length ranges → until ≤ (range_at ranges end).start) → end ≤ length ranges → from < length ranges
    → (range_at ranges from).start ≤ leaf → from < end
begins_before hs ranges leaf until end from t later limit within lt start = elim (cases_lt from end) [
  | inl less ↦ less
  | inr past ↦
      (let stop = limit (omega arith) in
      elim (cases_lt end from) [
        | inr same ↦ (let e : end ≡ from = omega arith in let p = ap (λ k. (range_at ranges k).start) e in absurd (omega arith))
        | inl more ↦
            (let j : ℕ = from - 1 in
            let e : j + 1 ≡ from = omega arith in
            let rises = t.rises end (omega arith) in
            let r = limits_rise hs 1 leaf_end ranges t end j (omega arith) (omega arith) in
            let n = t.next j from e lt in
            absurd (omega arith))
      ])
]

-- the ranges before such an end, from that range on
pub window_from : (hs : Collection) (ranges : List Range) (leaf until end from : ℕ) → IsRangeTable hs ranges → leaf < until
    → (end < length ranges → until ≤ (range_at ranges end).start) → end ≤ length ranges → from < length ranges
    → (range_at ranges from).start ≤ leaf → IsWindow ranges leaf from (end - from)
window_from hs ranges leaf until end from t later limit within lt start =
    window_to ranges leaf from end (begins_before hs ranges leaf until end from t later limit within lt start) within start
    (λ more. let stop = limit more in omega arith)

-- ranges that have a leaf, from one on that begins by the leaf
pub window_ahead : (hs : Collection) (ranges : List Range) (leaf until first size from begin : ℕ) → IsRangeTable hs ranges
    → HaveLeaves ranges leaf until first size → from < length ranges → (range_at ranges from).start ≤ leaf → begin ≡ max from first
    → IsWindow ranges leaf begin (first + size - begin)
window_ahead hs ranges leaf until first size from begin t have lt start is =
    let some = have.some in
    let within = have.within in
    let begins = have.start in
    elim (cases_lt from first) [
      | inl less ↦
          (let e : begin ≡ first = is ∙ max-eq_right (omega arith) in
          window_from hs ranges leaf until (first + size) begin t have.later have.limit within (omega arith)
          (let p = ap (λ k. (range_at ranges k).start) e in omega arith))
      | inr le ↦
          (let e : begin ≡ from = is ∙ max-eq_left le in
          window_from hs ranges leaf until (first + size) begin t have.later have.limit within (omega arith)
          (let p = ap (λ k. (range_at ranges k).start) e in omega arith))
    ]
