-- Ranges with more contents behind those of each, place by place.
use Rattle.std.proofs.Common.{◌≡◌, ℕ, zero, suc, ◌<◌, List, [], ◌∷◌, ◌++◌, length, refl, ap, arith}
use Rattle.s2ix_bag_pairs.specs.Collection.{Collection}
use Rattle.s2ix_table_walk.specs.Table.{Range, range_at}
use Rattle.s2ix_table_faced.specs.Layout.{with_over}

pub length_over : (over : Collection) (rs : List Range) → length (with_over over rs) ≡ length rs
length_over over [] = refl
length_over over (r ∷ rs) = ap suc (length_over over rs)

pub start_over : (over : Collection) (rs : List Range) (k : ℕ) → (range_at (with_over over rs) k).start ≡ (range_at rs k).start
start_over over [] k = refl
start_over over (r ∷ rs) zero = refl
start_over over (r ∷ rs) (suc k) = start_over over rs k

pub limit_over : (over : Collection) (rs : List Range) (k : ℕ) → (range_at (with_over over rs) k).limit ≡ (range_at rs k).limit
limit_over over [] k = refl
limit_over over (r ∷ rs) zero = refl
limit_over over (r ∷ rs) (suc k) = limit_over over rs k

pub contents_over : (over : Collection) (rs : List Range) (k : ℕ) → k < length rs
    → (range_at (with_over over rs) k).contents ≡ (range_at rs k).contents ++ over
contents_over over [] k lt = absurd (omega arith)
contents_over over (r ∷ rs) zero lt = refl
contents_over over (r ∷ rs) (suc k) lt = contents_over over rs k (omega arith)
