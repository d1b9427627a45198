-- What is printed of a table's ranges.
use Rattle.std.specs.Prelude.{ℕ, codes, List, [], ◌∷◌, ◌++◌, flat_map}
use Rattle.std.specs.List.{concat}
use Rattle.s2id_core.specs.Token.{sixteen_digits}
use Rattle.s2ix_bag_pairs.specs.declared.pair.Held.{Held}
use Rattle.s2ix_table_walk.specs.Table.{Range}
use Rattle.s2ix_text_write.specs.Lists.{pair_text}

-- a held pair after a space
unfoldable pub spaced_pair : Held → List ℕ
spaced_pair h = codes " " ++ pair_text h

-- the bounds of a range: START LIMIT
unfoldable pub bounds_text : ℕ → ℕ → List ℕ
bounds_text start limit = concat (sixteen_digits start ∷ codes " " ∷ sixteen_digits limit ∷ [])

-- the line of a range: its bounds, and its pairs, each after a space
unfoldable pub range_line : Range → List ℕ
range_line range = bounds_text range.start range.limit ++ (flat_map spaced_pair range.contents ++ codes "\n")
