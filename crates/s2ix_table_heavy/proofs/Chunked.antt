-- The pairs of chunks: where they are, and how they rise.
use Rattle.std.proofs.Common.{◌≡◌, ℕ, zero, suc, ◌+◌, ◌-◌, ◌*◌, ◌<◌, ◌≤◌, inl, inr, List, [], ◌∷◌, ◌++◌, length, get_or, sym, ap, arith, Contains, subst}
use Rattle.std.proofs.lemmas.Bool.{cases_lt}
use Rattle.std.proofs.lemmas.List.{get_or_past}
use Rattle.std.proofs.lemmas.List.Elements.{Contains-append_left, Contains-append_right, Contains-append_cases, Contains-get_or}
use Rattle.s2id_core.specs.CellId.{raw_of, level_of}
use Rattle.s2id_core.specs.Path.{path_at}
use Rattle.s2id_core.specs.declared.cell_id.CellId.{CellId}
use Rattle.s2id_core.proofs.Lists.{cons_cases, in_tail, at_head, none_in_nil}
use Rattle.s2ix_bag_lists.specs.Faces.{all_of}
use Rattle.s2ix_bag_lists.proofs.Joins.{back_rises}
use Rattle.s2ix_bag_lists.proofs.Places.{part_rises}
use Rattle.s2ix_bag_pairs.specs.Collection.{Collection, IsCollectionFrom}
use Rattle.s2ix_bag_pairs.specs.Label.{value_of}
use Rattle.s2ix_bag_pairs.specs.Pair.{rank_of}
use Rattle.s2ix_bag_pairs.specs.declared.pair.Held.{Held}
use Rattle.s2ix_table_walk.specs.Contents.{depth_key}
use Rattle.s2ix_table_walk.proofs.Lists.{later_rank}
use Rattle.s2ix_table_walk.proofs.Over.{level_at_most}
use Rattle.s2ix_table_heavy.specs.Chunks.{AreChunks, IsOfOneCell}
use Rattle.s2ix_table_heavy.proofs.Outwards.{Outwards, cons_outwards}

-- ---- where a pair is

pub in_chunks : (chunks : List Collection) (k : ℕ) (h : Held) → Contains (get_or chunks k []) h → Contains (all_of chunks) h
in_chunks [] k h i = absurd (none_in_nil h i)
in_chunks (c ∷ cs) zero h i = Contains-append_left c (all_of cs) h i
in_chunks (c ∷ cs) (suc k) h i = Contains-append_right c (all_of cs) h (in_chunks cs k h i)

pub of_chunks : (chunks : List Collection) (h : Held) → Contains (all_of chunks) h
    → (k : ℕ) × (k < length chunks) × Contains (get_or chunks k []) h
of_chunks [] h i = absurd (none_in_nil h i)
of_chunks (c ∷ cs) h i =
    elim (Contains-append_cases c (all_of cs) h i) [
      | inl j ↦ (0, omega arith, j)
      | inr j ↦ (let w = of_chunks cs h j in (suc w.0, (let lt = w.1 in omega arith), w.2))
    ]

-- ---- ranks

pub ranks_across : (n : ℕ) (xs ys : Collection) (a b : Held) → IsCollectionFrom n (xs ++ ys) → Contains xs a → Contains ys b
    → rank_of a.pair < rank_of b.pair
ranks_across n [] ys a b c i j = absurd (none_in_nil a i)
ranks_across n (x ∷ xs) ys a b c i j =
    elim (cons_cases x xs a i) [
      | inl e ↦
          (let later = later_rank (rank_of x.pair + 1) (xs ++ ys) b c.2 (Contains-append_right xs ys b j) in
          let same = ap (λ (y : Held). rank_of y.pair) e in
          omega arith)
      | inr t ↦ ranks_across (rank_of x.pair + 1) xs ys a b c.2 t j
    ]

pub ranks_apart : (n : ℕ) (chunks : List Collection) (j k : ℕ) (a b : Held) → IsCollectionFrom n (all_of chunks) → j < k
    → Contains (get_or chunks j []) a → Contains (get_or chunks k []) b → rank_of a.pair < rank_of b.pair
ranks_apart n [] j k a b c lt i l = absurd (none_in_nil a i)
ranks_apart n (x ∷ xs) j zero a b c lt i l = absurd (omega arith)
ranks_apart n (x ∷ xs) zero (suc k) a b c lt i l = ranks_across n x (all_of xs) a b c i (in_chunks xs k b l)
ranks_apart n (x ∷ xs) (suc j) (suc k) a b c lt i l = ranks_apart n xs j k a b (back_rises n x (all_of xs) c) (omega arith) i l

-- ---- depths in one cell

pub level_from_raw : (a b : CellId) → raw_of a ≡ raw_of b → level_of a ≡ level_of b
level_from_raw a b e = ap (λ n. length (path_at n).digits) e

key_from_labels : (k l r s v w : ℕ) → k ≡ l → r ≡ s → r * 2147483648 + v < s * 2147483648 + w
    → (30 - k) * 2147483648 + v < (30 - l) * 2147483648 + w
key_from_labels k l r s v w levels raws lt = omega (arith, ap (λ n. (30 - n) * 2147483648) levels)

-- of two pairs of one cell the lesser is below
pub below_by_rank : (a b : Held) → raw_of a.pair.cell ≡ raw_of b.pair.cell → rank_of a.pair < rank_of b.pair → depth_key a < depth_key b
unfolding depth_key
below_by_rank a b raws lt =
    key_from_labels (level_of a.pair.cell) (level_of b.pair.cell) (raw_of a.pair.cell) (raw_of b.pair.cell) (value_of a.pair.label)
    (value_of b.pair.label) (level_from_raw a.pair.cell b.pair.cell raws) raws lt

key_from_levels : (k l v w : ℕ) → k ≤ 30 → v ≤ 2147483647 → l < k → (30 - k) * 2147483648 + v < (30 - l) * 2147483648 + w
key_from_levels k l v w a b lt = omega arith

-- the pair of the finer cell is below
pub below_by_level : (a b : Held) → level_of b.pair.cell < level_of a.pair.cell → depth_key a < depth_key b
unfolding depth_key
below_by_level a b lt =
    key_from_levels (level_of a.pair.cell) (level_of b.pair.cell) (value_of a.pair.label) (value_of b.pair.label) (level_at_most a)
    a.pair.label.in_range lt

one_cell_outwards : (n : ℕ) (xs : Collection) → IsCollectionFrom n xs → IsOfOneCell xs → Outwards xs
one_cell_outwards n [] c one = λ i j d lt within. absurd (omega arith)
one_cell_outwards n (x ∷ xs) c one =
    cons_outwards x xs
    (λ y i.
    below_by_rank x y (ap raw_of (one x y (at_head x xs) (in_tail x xs y i)))
    (let later = later_rank (rank_of x.pair + 1) xs y c.2 i in omega arith))
    (one_cell_outwards (rank_of x.pair + 1) xs c.2 (λ a b i j. one a b (in_tail x xs a i) (in_tail x xs b j)))

-- a chunk rises by depth
pub chunk_outwards : (chunks : List Collection) → AreChunks chunks → (k : ℕ) → Outwards (get_or chunks k [])
chunk_outwards chunks are k =
    elim (cases_lt k (length chunks)) [
      | inl lt ↦
          one_cell_outwards 0 (get_or chunks k []) (part_rises chunks k lt are.rises)
          (are.one_cell (get_or chunks k []) (Contains-get_or chunks k [] lt))
      | inr past ↦ subst Outwards (sym (get_or_past chunks k [] past)) (λ i j d lt within. absurd (omega arith))
    ]
