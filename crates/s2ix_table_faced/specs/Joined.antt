-- The ranges of tables over neighbouring spans of leaves, put together.
use Rattle.std.specs.Prelude.{◌==◌, ◌&&◌, if◌then◌else◌, Bool, true, false, List, [], ◌∷◌}
use Rattle.s2ix_bag_pairs.specs.Collection.{Collection}
use Rattle.s2ix_bag_pairs.specs.Pair.{rank_of}
use Rattle.s2ix_table_walk.specs.Table.{Range}
use Rattle.s2ix_table_spans.specs.SpanTable.{SpanRanges}

-- whether the same pairs are held, with the same counts
abbrev pub is_same : Collection → Collection → Bool
is_same [] [] = true
is_same [] (k ∷ ks) = false
is_same (h ∷ hs) [] = false
is_same (h ∷ hs) (k ∷ ks) = rank_of h.pair == rank_of k.pair && h.count == k.count && is_same hs ks

-- a range before others: if the same lies over it and the next one, the two are one
abbrev pub put_first : Range → List Range → List Range
put_first r [] = r ∷ []
put_first r (s ∷ ss) =
    if is_same r.contents s.contents then record { start = r.start; limit = s.limit; contents = r.contents } ∷ ss else r ∷ s ∷ ss

-- ranges before others: if the same lies over the last and the first of them, the two are one
abbrev pub put_before : List Range → List Range → List Range
put_before [] ss = ss
put_before (r ∷ []) ss = put_first r ss
put_before (r ∷ t ∷ rs) ss = r ∷ put_before (t ∷ rs) ss

-- the ranges of some tables, one after the other
unfoldable pub joined_ranges : List SpanRanges → List Range
joined_ranges [] = []
joined_ranges (t ∷ ts) = put_before t.ranges (joined_ranges ts)
