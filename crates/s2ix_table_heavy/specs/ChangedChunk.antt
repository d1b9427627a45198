-- A chunk with other pairs of its cell, in its place.
use Rattle.std.specs.Prelude.{◌≡◌, ℕ, ◌+◌, ◌<◌, Option, List, [], take, drop, set, length, slice_index_or, Contains}
use Rattle.s2id_core.specs.declared.cell_id.CellId.{CellId}
use Rattle.s2ix_bag_lists.specs.Faces.{all_of}
use Rattle.s2ix_bag_pairs.specs.Collection.{Collection}
use Rattle.s2ix_bag_pairs.specs.Pair.{rank_of}
use Rattle.s2ix_bag_pairs.specs.declared.pair.Held.{Held}
use Rattle.s2ix_bag_pairs.specs.declared.pair.Pair.{Pair}
use Rattle.s2ix_table_walk.specs.Contents.{contents_at}
use Rattle.s2ix_table_walk.specs.Places.{LeadsTo}
use Rattle.s2ix_table_spans.specs.Blocks.{HoldsCell}
use Rattle.s2ix_table_heavy.specs.Chunks.{AreChunks, HaveOneCell}
use Rattle.s2ix_table_heavy.specs.HeavyChains.{heavy_chain}
use Rattle.s2ix_table_heavy.specs.declared.heavy_place.HeavyPlace.{HeavyPlace}

-- a pair has the cell of a chunk, and comes after all pairs before the chunk and before all behind it
pub record IsPairOf (chunks : List Collection) (k : ℕ) (pair : Pair) : Type 0 where
  pub cell : (h : Held) → Contains (slice_index_or chunks k []) h → h.pair.cell ≡ pair.cell
  pub after : (h : Held) → Contains (all_of (take k chunks)) h → rank_of h.pair < rank_of pair
  pub before : (h : Held) → Contains (all_of (drop (k + 1) chunks)) h → rank_of pair < rank_of h.pair

-- pairs can take the place of a chunk: they have its cell, and with them the chunks are in order
pub record FitsChunk (chunks : List Collection) (k : ℕ) (pairs : Collection) : Type 0 where
  pub listed : k < length chunks
  pub cell : HaveOneCell (slice_index_or chunks k []) pairs
  pub are_chunks : AreChunks (set chunks k pairs)

-- of two lists of chunks: the pairs over leaves change where they did, the places that led to them still do, and no cell is new
pub record LieAlike (old new : List Collection) : Type 0 where
  pub same : (q r : ℕ) → contents_at q (all_of old) ≡ contents_at r (all_of old) → contents_at q (all_of new) ≡ contents_at r (all_of new)
  pub leads : (q : ℕ) (over : Option HeavyPlace) → LeadsTo (heavy_chain old) over (contents_at q (all_of old))
      → LeadsTo (heavy_chain new) over (contents_at q (all_of new))
  pub cells : (cell : CellId) → HoldsCell (all_of new) cell → HoldsCell (all_of old) cell
