-- Chains of heavy pairs: from a pair outwards.
use Rattle.std.specs.Prelude.{ℕ, Bool, false, Option, List, [], slice_get, slice_index_or, option_map}
use Rattle.std.specs.Option.{unwrap_or}
use Rattle.s2ix_bag_lists.specs.Faces.{all_of}
use Rattle.s2ix_bag_pairs.specs.Collection.{Collection}
use Rattle.s2ix_bag_pairs.specs.declared.pair.Held.{Held}
use Rattle.s2ix_table_walk.specs.Contents.{depth_key}
use Rattle.s2ix_table_walk.specs.InOrder.{choice}
use Rattle.s2ix_table_spans.specs.Chains.{is_outward}
use Rattle.s2ix_table_heavy.specs.declared.heavy_place.HeavyPlace.{HeavyPlace}

-- the pair at a place, if there is one
abbrev pub pair_at : List Collection → HeavyPlace → Option Held
pair_at chunks place = slice_get (slice_index_or chunks place.chunk []) place.node

-- whether a pair lies outwards of the pair at a place; none does if there is no such place
abbrev pub is_beyond : List Collection → HeavyPlace → Held → Bool
is_beyond chunks place h = unwrap_or (option_map (λ from. is_outward from h) (pair_at chunks place)) false

-- the chain from a place outwards over all pairs, innermost first
unfoldable pub heavy_chain : List Collection → HeavyPlace → Collection
heavy_chain chunks place = choice (is_beyond chunks place) depth_key (all_of chunks)

-- the place of a chunk's first pair
abbrev pub first_place : ℕ → HeavyPlace
first_place chunk = record { chunk = chunk; node = 0 }
