-- Pairs, split up by their cells into light ones and heavy ones.
use Rattle.std.specs.Prelude.{◌<◌, ◌≤◌, List, ◌++◌, length, Contains}
use Rattle.s2id_core.specs.CellId.{raw_of}
use Rattle.s2ix_bag_lists.specs.Faces.{all_of}
use Rattle.s2ix_bag_pairs.specs.Collection.{Collection, IsCollection}
use Rattle.s2ix_bag_pairs.specs.declared.pair.Held.{Held}
use Rattle.s2ix_table_heavy.specs.Chunks.{AreChunks, IsOfOneCell}
use Rattle.s2ix_table_parts.specs.Layers.{ShareNoCell}

-- the cells of one collection come before those of another
abbrev pub HaveLesserCells : Collection → Collection → Type 0
HaveLesserCells xs ys = (a b : Held) → Contains xs a → Contains ys b → raw_of a.pair.cell < raw_of b.pair.cell

-- light pairs, and chunks of heavy ones, that share no cell
pub record AreSplit (light : Collection) (chunks : List Collection) : Type 0 where
  pub rises : IsCollection light
  pub are_chunks : AreChunks chunks
  pub apart : ShareNoCell light (all_of chunks)

-- a run: the pairs of one cell, which follow others
pub record IsRunAfter (front run : Collection) : Type 0 where
  pub some : 0 < length run
  pub rises : IsCollection (front ++ run)
  pub within_limit : length (front ++ run) ≤ 1000000
  pub lesser : HaveLesserCells front run
  pub one_cell : IsOfOneCell run
