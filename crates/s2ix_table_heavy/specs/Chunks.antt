-- Held pairs of heavy cells, in chunks.
use Rattle.std.specs.Prelude.{◌≡◌, ℕ, ◌<◌, ◌≤◌, Some, List, [], length, slice_get, slice_index_or, Contains}
use Rattle.s2id_core.specs.CellId.{raw_of}
use Rattle.s2id_core.specs.declared.cell_id.CellId.{CellId}
use Rattle.s2ix_bag_lists.specs.Faces.{all_of}
use Rattle.s2ix_bag_lists.specs.Parts.{AreFilled}
use Rattle.s2ix_bag_pairs.specs.Collection.{Collection, IsCollection}
use Rattle.s2ix_bag_pairs.specs.Label.{value_of}
use Rattle.s2ix_bag_pairs.specs.declared.pair.Held.{Held}

-- the pairs of two lists all have one cell
abbrev pub HaveOneCell : Collection → Collection → Type 0
HaveOneCell xs ys = (a b : Held) → Contains xs a → Contains ys b → a.pair.cell ≡ b.pair.cell

-- and so do those of one
abbrev pub IsOfOneCell : Collection → Type 0
IsOfOneCell xs = HaveOneCell xs xs

-- lists that rise one after the other, none empty, each with the pairs of one cell; a cell may have several
pub record AreChunks (chunks : List Collection) : Type 0 where
  pub rises : IsCollection (all_of chunks)
  pub within_limit : length (all_of chunks) ≤ 1000000
  pub filled : AreFilled chunks
  pub one_cell : (chunk : Collection) → Contains chunks chunk → IsOfOneCell chunk

-- the chunks in front of a number have cells before this one, and those from the number on have none before it
pub record IsFirstFrom (chunks : List Collection) (cell : CellId) (k : ℕ) : Type 0 where
  pub before : (j : ℕ) (h : Held) → j < k → Contains (slice_index_or chunks j []) h → raw_of h.pair.cell < raw_of cell
  pub from : (j : ℕ) (h : Held) → k ≤ j → Contains (slice_index_or chunks j []) h → raw_of cell ≤ raw_of h.pair.cell

-- a chunk's mark has the cell of its pairs, its number as label, and the count 1
pub record IsMark (chunk : Collection) (number : ℕ) (mark : Held) : Type 0 where
  pub cell : (h : Held) → Contains chunk h → h.pair.cell ≡ mark.pair.cell
  pub label : value_of mark.pair.label ≡ number
  pub count : mark.count ≡ 1

-- one mark for each chunk, in order
pub record AreMarks (chunks : List Collection) (marks : Collection) : Type 0 where
  pub size : length marks ≡ length chunks
  pub each : (k : ℕ) (mark : Held) → slice_get marks k ≡ Some mark → IsMark (slice_index_or chunks k []) k mark
