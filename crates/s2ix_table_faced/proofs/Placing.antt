-- Where the ranges of each table stand among the joined ones.
use Rattle.std.proofs.Common.{◌≡◌, ℕ, zero, suc, ◌+◌, ◌<◌, ◌≤◌, inl, inr, List, length, sym, ◌∙◌, ap, arith}
use Rattle.std.proofs.lemmas.Bool.{cases_eq}
use Rattle.s2ix_table_walk.specs.Table.{Range, range_at}
use Rattle.s2ix_table_faced.specs.declared.offset.Offset.{Offset}
use Rattle.s2ix_bag_pairs.specs.Collection.{Collection}
use Rattle.s2ix_table_faced.specs.Layout.{with_over}
use Rattle.s2ix_table_faced.proofs.JoinedPlaces.{IsOne, IsTwo}
use Rattle.s2ix_table_faced.proofs.RangesOver.{length_over, limit_over, start_over}

-- ranges stand at the end of others, from a offset on: the first may begin before
pub record IsOffset (whole rest : List Range) (offset : Offset) : Type 0 where
  pub length_is : offset.place + length rest ≡ length whole
  pub contents : (range_at whole offset.place).contents ≡ (range_at rest 0).contents
  pub limit : (range_at whole offset.place).limit ≡ (range_at rest 0).limit
  pub start : (range_at whole offset.place).start ≡ offset.start
  pub by : offset.start ≤ (range_at rest 0).start
  pub later : (k : ℕ) → 0 < k → k < length rest → range_at whole (offset.place + k) ≡ range_at rest k

-- the ranges of one table among others, from a offset on: the first may begin before, and one at `high` or after may end after
pub record IsPart (whole part : List Range) (offset : Offset) (high : ℕ) : Type 0 where
  pub some : 0 < length part
  pub above : offset.place ≤ high
  pub reach : high ≤ offset.place + length part
  pub within : offset.place + length part ≤ length whole
  pub contents : (k : ℕ) → k < length part → (range_at whole (offset.place + k)).contents ≡ (range_at part k).contents
  pub limit : (k : ℕ) → k < length part → offset.place + k < high → (range_at whole (offset.place + k)).limit ≡ (range_at part k).limit
  pub to : (k : ℕ) → k < length part → (range_at part k).limit ≤ (range_at whole (offset.place + k)).limit
  pub start : (range_at whole offset.place).start ≡ offset.start
  pub by : offset.start ≤ (range_at part 0).start
  pub later : (k : ℕ) → 0 < k → k < length part → (range_at whole (offset.place + k)).start ≡ (range_at part k).start

-- the same of ranges that may have other contents among those: they only begin and end as one table's do
pub record IsSpread (whole part : List Range) (offset : Offset) (high : ℕ) : Type 0 where
  pub some : 0 < length part
  pub above : offset.place ≤ high
  pub reach : high ≤ offset.place + length part
  pub within : offset.place + length part ≤ length whole
  pub limit : (k : ℕ) → k < length part → offset.place + k < high → (range_at whole (offset.place + k)).limit ≡ (range_at part k).limit
  pub to : (k : ℕ) → k < length part → (range_at part k).limit ≤ (range_at whole (offset.place + k)).limit
  pub start : (range_at whole offset.place).start ≡ offset.start
  pub by : offset.start ≤ (range_at part 0).start
  pub later : (k : ℕ) → 0 < k → k < length part → (range_at whole (offset.place + k)).start ≡ (range_at part k).start

-- ranges of a part with more contents behind those of each
pub spread : (whole part : List Range) (over : Collection) (offset : Offset) (high : ℕ) → IsPart whole (with_over over part) offset high
    → IsSpread whole part offset high
spread whole part over offset high is =
    let len = length_over over part in
    let some = is.some in
    let above = is.above in
    let reach = is.reach in
    let within = is.within in
    let by = is.by in
    let first = start_over over part 0 in
    record {
      some = omega arith;
      above = above;
      reach = omega arith;
      within = omega arith;
      limit = λ k lt below. is.limit k (omega arith) below ∙ limit_over over part k;
      to = λ k lt. let to = is.to k (omega arith) in let own = limit_over over part k in omega arith;
      start = is.start;
      by = omega arith;
      later = λ k more lt. is.later k more (omega arith) ∙ start_over over part k;
    }

-- the last of some ranges ends by the first of others
pub record IsCut (xs ys : List Range) (last : ℕ) : Type 0 where
  pub last_is : length xs ≡ last + 1
  pub some : 0 < length ys
  pub start : (range_at xs last).start ≤ (range_at ys 0).start
  pub limit : (range_at xs last).limit ≤ (range_at ys 0).limit

-- what the ranges of a offset say of the whole
pub record IsAlike (whole rest : List Range) (offset : Offset) (k : ℕ) : Type 0 where
  pub contents : (range_at whole (offset.place + k)).contents ≡ (range_at rest k).contents
  pub limit : (range_at whole (offset.place + k)).limit ≡ (range_at rest k).limit
  pub start : 0 < k → (range_at whole (offset.place + k)).start ≡ (range_at rest k).start

pub alike : (whole rest : List Range) (offset : Offset) (k : ℕ) → IsOffset whole rest offset → k < length rest → IsAlike whole rest offset k
alike whole rest offset zero is lt =
    let e : offset.place + 0 ≡ offset.place = omega arith in
    record {
      contents = ap (λ n. (range_at whole n).contents) e ∙ is.contents;
      limit = ap (λ n. (range_at whole n).limit) e ∙ is.limit;
      start = λ some. absurd (omega arith);
    }
alike whole rest offset (suc k) is lt =
    let e = is.later (suc k) (omega arith) lt in
    record {
      contents = ap (λ (r : Range). r.contents) e;
      limit = ap (λ (r : Range). r.limit) e;
      start = λ some. ap (λ (r : Range). r.start) e;
    }

-- ---- the last table

pub last_part : (whole part : List Range) (offset : Offset) → 0 < length part → IsOffset whole part offset → IsPart whole part offset (length whole)
last_part whole part offset some is =
    let len = is.length_is in
    record {
      some = some;
      above = omega arith;
      reach = omega arith;
      within = omega arith;
      contents = λ k lt. (alike whole part offset k is lt).contents;
      limit = λ k lt high. (alike whole part offset k is lt).limit;
      to = λ k lt. let e = (alike whole part offset k is lt).limit in omega arith;
      start = is.start;
      by = is.by;
      later = λ k some lt. (alike whole part offset k is lt).start some;
    }

-- ---- two ranges at the cut

pub two_part : (whole xs ys zs : List Range) (offset : Offset) → 0 < length xs → IsTwo xs ys zs → IsOffset whole zs offset
    → IsPart whole xs offset (offset.place + length xs)
two_part whole xs ys zs offset some two is =
    let len = is.length_is in
    let both = two.length_is in
    record {
      some = some;
      above = omega arith;
      reach = omega arith;
      within = omega arith;
      contents = λ k lt. (alike whole zs offset k is (omega arith)).contents ∙ ap (λ (r : Range). r.contents) (two.front k lt);
      limit = λ k lt high. (alike whole zs offset k is (omega arith)).limit ∙ ap (λ (r : Range). r.limit) (two.front k lt);
      to = λ k lt.
          let e = (alike whole zs offset k is (omega arith)).limit ∙ ap (λ (r : Range). r.limit) (two.front k lt) in
          omega arith;
      start = is.start;
      by = let by = is.by in let e = ap (λ (r : Range). r.start) (two.front 0 some) in omega arith;
      later = λ k some lt. (alike whole zs offset k is (omega arith)).start some ∙ ap (λ (r : Range). r.start) (two.front k lt);
    }

pub two_next : (whole xs ys zs : List Range) (offset : Offset) → 0 < length xs → 0 < length ys → IsTwo xs ys zs → IsOffset whole zs offset
    → IsOffset whole ys (record { place = offset.place + length xs; start = (range_at ys 0).start })
two_next whole xs ys zs offset some more two is =
    let len = is.length_is in
    let both = two.length_is in
    let each : (k : ℕ) → k < length ys → range_at whole (offset.place + length xs + k) ≡ range_at ys k = λ k lt.
    let e : offset.place + length xs + k ≡ offset.place + (length xs + k) = omega arith in
    ap (range_at whole) e ∙ is.later (length xs + k) (omega arith) (omega arith) ∙ two.back k lt in
    let e : offset.place + length xs ≡ offset.place + length xs + 0 = omega arith in
    let first : range_at whole (offset.place + length xs) ≡ range_at ys 0 = ap (range_at whole) e ∙ each 0 more in
    record {
      length_is = omega arith;
      contents = ap (λ (r : Range). r.contents) first;
      limit = ap (λ (r : Range). r.limit) first;
      start = ap (λ (r : Range). r.start) first;
      by = omega arith;
      later = λ k some lt. each k lt;
    }

-- ---- one range at the cut

one_contents : (xs ys zs : List Range) (p k : ℕ) → length xs ≡ p + 1 → IsOne xs ys p zs → k < length xs
    → (range_at zs k).contents ≡ (range_at xs k).contents
one_contents xs ys zs p k last one lt =
    elim (cases_eq k p) [
      | inl e ↦ ap (λ n. (range_at zs n).contents) e ∙ one.contents ∙ sym (ap (λ n. (range_at xs n).contents) e)
      | inr ne ↦ ap (λ (r : Range). r.contents) (one.front k (omega (arith, ne)))
    ]

pub one_start : (xs ys zs : List Range) (p k : ℕ) → length xs ≡ p + 1 → IsOne xs ys p zs → k < length xs
    → (range_at zs k).start ≡ (range_at xs k).start
one_start xs ys zs p k last one lt =
    elim (cases_eq k p) [
      | inl e ↦ ap (λ n. (range_at zs n).start) e ∙ one.start ∙ sym (ap (λ n. (range_at xs n).start) e)
      | inr ne ↦ ap (λ (r : Range). r.start) (one.front k (omega (arith, ne)))
    ]

one_to : (xs ys zs : List Range) (p k : ℕ) → IsCut xs ys p → IsOne xs ys p zs → k < length xs
    → (range_at xs k).limit ≤ (range_at zs k).limit
one_to xs ys zs p k cut one lt =
    let last = cut.last_is in
    elim (cases_eq k p) [
      | inl e ↦
          (let a = ap (λ n. (range_at zs n).limit) e in
          let b = ap (λ n. (range_at xs n).limit) e in
          let c = one.limit in
          let d = cut.limit in
          omega arith)
      | inr ne ↦ (let e = ap (λ (r : Range). r.limit) (one.front k (omega (arith, ne))) in omega arith)
    ]

pub one_part : (whole xs ys zs : List Range) (offset : Offset) (p : ℕ) → IsCut xs ys p → IsOne xs ys p zs → IsOffset whole zs offset
    → IsPart whole xs offset (offset.place + p)
one_part whole xs ys zs offset p cut one is =
    let len = is.length_is in
    let both = one.length_is in
    let last = cut.last_is in
    let some = cut.some in
    record {
      some = omega arith;
      above = omega arith;
      reach = omega arith;
      within = omega arith;
      contents = λ k lt. (alike whole zs offset k is (omega arith)).contents ∙ one_contents xs ys zs p k last one lt;
      limit = λ k lt high. (alike whole zs offset k is (omega arith)).limit ∙ ap (λ (r : Range). r.limit) (one.front k (omega arith));
      to = λ k lt.
          let e = (alike whole zs offset k is (omega arith)).limit in
          let le = one_to xs ys zs p k cut one lt in
          omega arith;
      start = is.start;
      by = let by = is.by in let e = one_start xs ys zs p 0 last one (omega arith) in omega arith;
      later = λ k some lt. (alike whole zs offset k is (omega arith)).start some ∙ one_start xs ys zs p k last one lt;
    }

pub one_next : (whole xs ys zs : List Range) (offset : Offset) (p start : ℕ) → IsCut xs ys p → IsOne xs ys p zs
    → (range_at xs p).contents ≡ (range_at ys 0).contents → IsOffset whole zs offset → (range_at whole (offset.place + p)).start ≡ start
    → start ≤ (range_at ys 0).start → IsOffset whole ys (record { place = offset.place + p; start = start })
one_next whole xs ys zs offset p start cut one same is begins by =
    let len = is.length_is in
    let both = one.length_is in
    let some = cut.some in
    let at = alike whole zs offset p is (omega arith) in
    record {
      length_is = omega arith;
      contents = at.contents ∙ one.contents ∙ same;
      limit = at.limit ∙ one.limit;
      start = begins;
      by = by;
      later = λ k some lt.
          let e : offset.place + p + k ≡ offset.place + (p + k) = omega arith in
          ap (range_at whole) e ∙ is.later (p + k) (omega arith) (omega arith) ∙ one.back k some lt;
    }
