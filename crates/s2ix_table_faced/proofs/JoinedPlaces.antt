-- Joined ranges, place by place.
use Rattle.std.proofs.Common.{◌≡◌, ℕ, zero, suc, ◌+◌, ◌<◌, true, false, cond, List, [], ◌∷◌, length, refl, sym, ◌∙◌, ap, arith, subst}
use Rattle.std.proofs.lemmas.Bool.{cond-true, cond-false}
use Rattle.s2ix_table_walk.specs.Table.{Range, range_at}
use Rattle.s2ix_table_faced.specs.Joined.{is_same, put_before}

-- ---- one range at the cut

pub record IsOne (xs ys : List Range) (p : ℕ) (zs : List Range) : Type 0 where
  pub length_is : p + length ys ≡ length zs
  pub front : (k : ℕ) → k < p → range_at zs k ≡ range_at xs k
  pub start : (range_at zs p).start ≡ (range_at xs p).start
  pub contents : (range_at zs p).contents ≡ (range_at xs p).contents
  pub limit : (range_at zs p).limit ≡ (range_at ys 0).limit
  pub back : (k : ℕ) → 0 < k → k < length ys → range_at zs (p + k) ≡ range_at ys k

at_plus : (zs : List Range) (p : ℕ) → range_at zs (0 + p) ≡ range_at zs p
at_plus zs p = let e : 0 + p ≡ p = omega arith in ap (range_at zs) e

later_at : (z : Range) (zs ys : List Range) (p k : ℕ) → range_at zs (p + k) ≡ range_at ys k → range_at (z ∷ zs) (suc p + k) ≡ range_at ys k
later_at z zs ys p k same = let e : suc p + k ≡ suc (p + k) = omega arith in ap (range_at (z ∷ zs)) e ∙ same

one_first : (r s : Range) (ss : List Range)
    → IsOne (r ∷ []) (s ∷ ss) 0 (record { start = r.start; limit = s.limit; contents = r.contents } ∷ ss)
one_first r s ss = record {
  length_is = omega arith;
  front = λ k lt. absurd (omega arith);
  start = refl;
  contents = refl;
  limit = refl;
  back = back;
}
  where
    back : (k : ℕ) → 0 < k → k < length (s ∷ ss)
        → range_at (record { start = r.start; limit = s.limit; contents = r.contents } ∷ ss) (0 + k) ≡ range_at (s ∷ ss) k
    back zero some lt = absurd (omega arith)
    back (suc k) some lt = at_plus (record { start = r.start; limit = s.limit; contents = r.contents } ∷ ss) (suc k)

pub joined_one : (xs ys : List Range) (p : ℕ) → length xs ≡ p + 1 → 0 < length ys
    → is_same (range_at xs p).contents (range_at ys 0).contents ≡ true → IsOne xs ys p (put_before xs ys)
joined_one [] ys p e some both = absurd (omega arith)
joined_one (r ∷ []) [] p e some both = absurd (omega arith)
joined_one (r ∷ []) (s ∷ ss) zero e some both =
    subst (IsOne (r ∷ []) (s ∷ ss) 0) (sym (cond-true _ (record { start = r.start; limit = s.limit; contents = r.contents } ∷ ss) (r ∷ s ∷ ss) both)) (one_first r s ss)
joined_one (r ∷ []) (s ∷ ss) (suc p) e some both = absurd (omega arith)
joined_one (r ∷ t ∷ rs) ys zero e some both = absurd (omega arith)
joined_one (r ∷ t ∷ rs) ys (suc p) e some both =
    let rest = joined_one (t ∷ rs) ys p (omega arith) some both in
    let len = rest.length_is in
    record {
      length_is = omega arith;
      front = front rest.front;
      start = rest.start;
      contents = rest.contents;
      limit = rest.limit;
      back = λ k some lt. later_at r (put_before (t ∷ rs) ys) ys p k (rest.back k some lt);
    }
  where
    front : ((k : ℕ) → k < p → range_at (put_before (t ∷ rs) ys) k ≡ range_at (t ∷ rs) k) → (k : ℕ) → k < suc p
        → range_at (r ∷ put_before (t ∷ rs) ys) k ≡ range_at (r ∷ t ∷ rs) k
    front same zero lt = refl
    front same (suc k) lt = same k (omega arith)

-- ---- two ranges at the cut

pub record IsTwo (xs ys zs : List Range) : Type 0 where
  pub length_is : length xs + length ys ≡ length zs
  pub front : (k : ℕ) → k < length xs → range_at zs k ≡ range_at xs k
  pub back : (k : ℕ) → k < length ys → range_at zs (length xs + k) ≡ range_at ys k

two_first : (r s : Range) (ss : List Range) → IsTwo (r ∷ []) (s ∷ ss) (r ∷ s ∷ ss)
two_first r s ss = record {
  length_is = omega arith;
  front = front;
  back = λ k lt. let e : 1 + k ≡ suc k = omega arith in ap (range_at (r ∷ s ∷ ss)) e;
}
  where
    front : (k : ℕ) → k < 1 → range_at (r ∷ s ∷ ss) k ≡ range_at (r ∷ []) k
    front zero lt = refl
    front (suc k) lt = absurd (omega arith)

pub joined_two : (xs ys : List Range) (p : ℕ) → length xs ≡ p + 1 → 0 < length ys
    → is_same (range_at xs p).contents (range_at ys 0).contents ≡ false → IsTwo xs ys (put_before xs ys)
joined_two [] ys p e some apart = absurd (omega arith)
joined_two (r ∷ []) [] p e some apart = absurd (omega arith)
joined_two (r ∷ []) (s ∷ ss) zero e some apart =
    subst (IsTwo (r ∷ []) (s ∷ ss)) (sym (cond-false _ (record { start = r.start; limit = s.limit; contents = r.contents } ∷ ss) (r ∷ s ∷ ss) apart)) (two_first r s ss)
joined_two (r ∷ []) (s ∷ ss) (suc p) e some apart = absurd (omega arith)
joined_two (r ∷ t ∷ rs) ys zero e some apart = absurd (omega arith)
joined_two (r ∷ t ∷ rs) ys (suc p) e some apart =
    let rest = joined_two (t ∷ rs) ys p (omega arith) some apart in
    let len = rest.length_is in
    record {
      length_is = omega arith;
      front = front rest.front;
      back = λ k lt. later_at r (put_before (t ∷ rs) ys) ys (length (t ∷ rs)) k (rest.back k lt);
    }
  where
    front : ((k : ℕ) → k < length (t ∷ rs) → range_at (put_before (t ∷ rs) ys) k ≡ range_at (t ∷ rs) k) → (k : ℕ) → k < length (r ∷ t ∷ rs)
        → range_at (r ∷ put_before (t ∷ rs) ys) k ≡ range_at (r ∷ t ∷ rs) k
    front same zero lt = refl
    front same (suc k) lt = same k (omega arith)

-- ---- the first range, and none after

pub joined_nil : (xs : List Range) → put_before xs [] ≡ xs
joined_nil [] = refl
joined_nil (r ∷ []) = refl
joined_nil (r ∷ t ∷ rs) = ap (λ zs. r ∷ zs) (joined_nil (t ∷ rs))

-- the first range begins as before, and has the same contents
pub record BeginAlike (xs zs : List Range) : Type 0 where
  pub some : 0 < length zs
  pub start : (range_at zs 0).start ≡ (range_at xs 0).start
  pub contents : (range_at zs 0).contents ≡ (range_at xs 0).contents

pub joined_first : (xs ys : List Range) → 0 < length xs → BeginAlike xs (put_before xs ys)
joined_first [] ys some = absurd (omega arith)
joined_first (r ∷ []) [] some = record { some = omega arith; start = refl; contents = refl }
joined_first (r ∷ []) (s ∷ ss) some =
    elim (is_same r.contents s.contents) as (λ b. BeginAlike (r ∷ []) (cond b (record { start = r.start; limit = s.limit; contents = r.contents } ∷ ss) (r ∷ s ∷ ss))) [
      | true ↦ record { some = omega arith; start = refl; contents = refl }
      | false ↦ record { some = omega arith; start = refl; contents = refl }
    ]
joined_first (r ∷ t ∷ rs) ys some = record { some = omega arith; start = refl; contents = refl }
