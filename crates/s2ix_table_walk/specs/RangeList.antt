-- The range table as a function of the collection.
use Rattle.std.specs.Prelude.{ℕ, List, [], ◌∷◌}
use Rattle.s2id_core.specs.CellId.{first_of, end_of}
use Rattle.s2ix_bag_pairs.specs.Collection.{Collection}
use Rattle.s2ix_table_walk.specs.Contents.{contents_at}
use Rattle.s2ix_table_walk.specs.Once.{put_once}
use Rattle.s2ix_table_walk.specs.Table.{Range, leaf_end}

-- the bounds of ranges, rising: the first leaf number, the end of the leaves, and where each held cell begins and ends
unfoldable pub bounds_of : Collection → List ℕ
bounds_of [] = 1 ∷ leaf_end ∷ []
bounds_of (h ∷ hs) = put_once (λ b. b) (first_of h.pair.cell) (put_once (λ b. b) (end_of h.pair.cell) (bounds_of hs))

-- the ranges from each bound up to the next
unfoldable pub ranges_between : Collection → List ℕ → List Range
ranges_between held [] = []
ranges_between held (b ∷ []) = []
ranges_between held (b ∷ c ∷ bs) =
    record { start = b; limit = c; contents = contents_at b held } ∷ ranges_between held (c ∷ bs)

-- the range table: between two neighbouring bounds contents stay, and at each they change
unfoldable pub range_table : Collection → List Range
range_table held = ranges_between held (bounds_of held)
