-- Places of pairs in a table that is kept in parts, under heavy pairs.
use Rattle.std.specs.Prelude.{ℕ, List, [], ◌∷◌, ◌++◌}
use Rattle.s2ix_bag_pairs.specs.Collection.{Collection}
use Rattle.s2ix_table_walk.specs.Contents.{contents_at}
use Rattle.s2ix_table_spans.specs.SpanTable.{SpanRanges}
use Rattle.s2ix_table_spans.specs.Chains.{chain_of}
use Rattle.s2ix_table_heavy.specs.HeavyChains.{heavy_chain}
use Rattle.s2ix_table_heavy.specs.declared.heavy_place.HeavyPlace.{HeavyPlace}
use Rattle.s2ix_table_faced.specs.declared.part_place.FaceHeavyPlace.{FaceHeavyPlace}
use Rattle.s2ix_table_faced.specs.declared.part_place.FacedPlace.{FacedPlace}
use Rattle.s2ix_table_faced.specs.declared.part_place.FacedPlace.TheVariants.{Light, Heavy}
use Rattle.s2ix_table_faced.specs.declared.part_place.PartPlace.{PartPlace}
use Rattle.s2ix_table_parts.specs.FaceSpans.{table_of}
use Rattle.s2ix_table_faced.specs.Layout.{chunks_on, heavy_in}

-- the chain from a place of one of some tables outwards
abbrev pub chain_from : List SpanRanges → PartPlace → Collection
chain_from parts place = chain_of (table_of parts place.part).held place.node

-- a chain, if it has a pair, and more pairs behind it
abbrev pub with_behind : Collection → Collection → Collection
with_behind [] over = []
with_behind (h ∷ hs) over = (h ∷ hs) ++ over

-- the chain from a place of the heavy pairs of six faces outwards
abbrev pub face_chain : List (List Collection) → FaceHeavyPlace → Collection
face_chain heavy place = heavy_chain (chunks_on heavy place.face) place.place

-- the place of a face's heavy pairs, among those of all six faces
abbrev pub place_of_face : ℕ → HeavyPlace → FaceHeavyPlace
place_of_face face place = record { face = face; place = place }

-- the chain from a place outwards: in its part, and on among the heavy pairs over that
abbrev pub faced_chain : List SpanRanges → List (List Collection) → FacedPlace → Collection
faced_chain parts heavy (Light place) = with_behind (chain_from parts place) (contents_at (table_of parts place.part).from (heavy_in heavy))
faced_chain parts heavy (Heavy place) = face_chain heavy place
