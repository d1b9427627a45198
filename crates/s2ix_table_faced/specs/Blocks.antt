-- Which parts may have a leaf, by blocks of leaves.
use Rattle.std.specs.Prelude.{ℕ, ◌+◌, ◌*◌, ◌^◌, ◌<◌, List, length, slice_index_or}
use Rattle.s2ix_table_spans.specs.Starts.{IsLastStart}
use Rattle.s2ix_table_faced.specs.declared.blocks.Blocks.{Blocks}

-- each block has the number of the last part that begins by its first leaf number
abbrev pub AreBlocks : List ℕ → Blocks → Type 0
AreBlocks starts blocks =
    (b : ℕ) → b < length blocks.lasts.items → IsLastStart starts (b * 2 ^ blocks.shift + 1) (slice_index_or blocks.lasts.items b 0)
