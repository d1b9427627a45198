-- What contracts see of joined parts, and what is kept beside them.
use Rattle.std.specs.Prelude.{◌≡◌, ℕ, ◌≤◌, List, length}
use Rattle.s2ix_bag_pairs.specs.Collection.{Collection, IsCollection}
use Rattle.s2ix_table_walk.specs.Table.{leaf_end}
use Rattle.s2ix_table_spans.specs.SpanTable.{SpanRanges}
use Rattle.s2ix_table_faced.specs.declared.offset.Offset.{Offset}
use Rattle.s2ix_table_parts.specs.FaceSpans.{starts_of}
use Rattle.s2ix_table_parts.specs.Neighbours.{held_in, AreNeighbours}
use Rattle.s2ix_table_faced.specs.Joined.{joined_ranges}
use Rattle.s2ix_table_parts.specs.Layers.{joined_layers, ShareNoCell}
use Rattle.s2ix_table_faced.specs.Layout.{AreAllUnder, covered}
use Rattle.s2ix_table_faced.specs.Offsets.{offsets_of}

-- neighbouring parts from the first leaf of face 0 to the last of face 5, under heavy pairs; where the parts begin, their offsets,
-- and the number of the joined ranges
pub record AreJoined (parts : List SpanRanges) (heavy : Collection) (starts : List ℕ) (offsets : List Offset) (count : ℕ) : Type 0 where
  pub neighbours : AreNeighbours 1 parts leaf_end
  pub heavy_rises : IsCollection heavy
  pub under : AreAllUnder heavy parts
  pub apart : ShareNoCell (held_in parts) heavy
  pub starts_are : starts ≡ starts_of parts
  pub offsets_are : offsets ≡ offsets_of (covered heavy parts)
  pub within_limit : length (joined_layers (held_in parts) heavy) ≤ 1000000
  pub counted : count ≡ length (joined_ranges (covered heavy parts))
