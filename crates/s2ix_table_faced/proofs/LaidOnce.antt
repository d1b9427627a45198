-- In a layout of parts under heavy pairs a pair has one place.
use Rattle.std.proofs.Common.{◌≡◌, ◌↔◌, ℕ, ◌-◌, ◌<◌, Bool, IsTrue, Option, None, List, length, get_or, option_map, sym, ◌∙◌, arith}
use Rattle.s2ix_bag_pairs.specs.Collection.{Collection}
use Rattle.s2ix_table_walk.specs.Contents.{contents_at}
use Rattle.s2ix_table_spans.specs.Once.{KeepsOnce}
use Rattle.s2ix_table_spans.specs.SpanTable.{SpanRanges}
use Rattle.s2ix_table_heavy.proofs.OnePlace.{keeps_once}
use Rattle.s2ix_table_heavy.specs.declared.heavy_place.HeavyPlace.{HeavyPlace}
use Rattle.s2ix_table_parts.specs.FaceSpans.{spans_of, table_of, TablePart}
use Rattle.s2ix_table_faced.specs.Layout.{IsLayout, chunks_on, face_with, heavy_in}
use Rattle.s2ix_table_faced.specs.PartPlaces.{face_chain, faced_chain, place_of_face}
use Rattle.s2ix_table_faced.proofs.HeavyOnce.{heavy_once, over_is, over_of, same_heavy_places}
use Rattle.s2ix_table_faced.proofs.Once.{faced_once}
use Rattle.s2ix_table_parts.proofs.Shared.{many_shared}

laid_heavy_once : {parts : List SpanRanges} {heavy : List (List Collection)} {heavy_places : List (Option HeavyPlace)} → IsLayout parts heavy heavy_places
    → KeepsOnce (face_chain heavy)
laid_heavy_once {parts} {heavy} {heavy_places} is =
    heavy_once heavy is.layered.six is.layered.on_faces (λ face lt. keeps_once (chunks_on heavy face) (is.chunks face lt))

pub laid_once : {parts : List SpanRanges} {heavy : List (List Collection)} {heavy_places : List (Option HeavyPlace)} → IsLayout parts heavy heavy_places
    → KeepsOnce (faced_chain parts heavy)
laid_once {parts} {heavy} {heavy_places} is =
    faced_once parts heavy heavy_places is.neighbours is.layered is.apart (λ face lt. keeps_once (chunks_on heavy face) (is.chunks face lt))

-- two parts lie under the same heavy pairs exactly if the places over them, with their faces, are one
pub laid_same_over : {parts : List SpanRanges} {heavy : List (List Collection)} {heavy_places : List (Option HeavyPlace)} (i j : ℕ)
    → IsLayout parts heavy heavy_places → i < length parts → j < length parts
    → (over_of parts heavy_places i ≡ over_of parts heavy_places j)
    ↔ (contents_at (table_of parts i).from (heavy_in heavy) ≡ contents_at (table_of parts j).from (heavy_in heavy))
laid_same_over {parts} {heavy} {heavy_places} i j is one other =
    same_heavy_places parts heavy heavy_places i j is.neighbours is.layered (laid_heavy_once is) one other

-- ---- what tells it

-- what tells whether the places over two parts are one, with their faces, tells whether the two lie under the same heavy pairs
pub laid_told : {parts : List SpanRanges} {heavy : List (List Collection)} {heavy_places : List (Option HeavyPlace)} (i j : ℕ)
    (a b : Option HeavyPlace) (same : Bool) → IsLayout parts heavy heavy_places → i < length parts → j < length parts → get_or heavy_places i None ≡ a
    → get_or heavy_places j None ≡ b
    → IsTrue same ↔ (option_map (place_of_face (face_with (table_of parts i).from)) a ≡ option_map (place_of_face (face_with (table_of parts j).from)) b)
    → IsTrue same ↔ (contents_at (table_of parts i).from (heavy_in heavy) ≡ contents_at (table_of parts j).from (heavy_in heavy))
laid_told {parts} {heavy} {heavy_places} i j a b same is one other is_a is_b told =
    let on = laid_same_over i j is one other in
    let first = over_is parts heavy_places i a is_a in
    let next = over_is parts heavy_places j b is_b in (
      λ t. on.0 (first ∙ told.0 t ∙ sym next),
      λ e. told.1 (sym first ∙ on.1 e ∙ next),
    )

-- the same of a part that is read, and the one before it
pub read_told : (parts : List TablePart) {heavy : List (List Collection)} {heavy_places : List (Option HeavyPlace)} (n : ℕ)
    (a b : Option HeavyPlace) (same : Bool) → IsLayout (spans_of parts) heavy heavy_places → n < length parts → get_or heavy_places (n - 1) None ≡ a
    → get_or heavy_places n None ≡ b
    → IsTrue same ↔ (option_map (place_of_face (face_with (table_of (spans_of parts) (n - 1)).from)) a
    ≡ option_map (place_of_face (face_with (table_of (spans_of parts) n).from)) b)
    → IsTrue same ↔ (contents_at (table_of (spans_of parts) (n - 1)).from (heavy_in heavy) ≡ contents_at (table_of (spans_of parts) n).from (heavy_in heavy))
read_told parts {heavy} {heavy_places} n a b same is lt is_a is_b told =
    let many = many_shared parts in
    laid_told (n - 1) n a b same is (omega arith) (omega arith) is_a is_b told
