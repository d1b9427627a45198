-- A change within one chunk of the heavy pairs of a face: its parts stay.
use Rattle.std.proofs.Common.{◌≡◌, ℕ, ◌+◌, ◌≤◌, Option, List, [], ◌∷◌, length, set, refl, sym, ap, ◌∙◌, arith, Contains, subst}
use Rattle.s2id_core.specs.CellId.{face_of, raw_of}
use Rattle.s2ix_bag_lists.specs.Faces.{all_of}
use Rattle.s2ix_bag_pairs.specs.Change.{IsChangeList, changed}
use Rattle.s2ix_bag_pairs.specs.Collection.{Collection}
use Rattle.s2ix_bag_pairs.specs.declared.pair.Entry.{Entry}
use Rattle.s2ix_bag_pairs.proofs.Changes.{changed_keeps}
use Rattle.s2ix_table_spans.specs.Blocks.{HoldsCell}
use Rattle.s2ix_table_spans.specs.SpanTable.{SpanRanges}
use Rattle.s2ix_table_heavy.specs.ChangedChunk.{FitsChunk, LieAlike}
use Rattle.s2ix_table_heavy.specs.declared.heavy_place.HeavyPlace.{HeavyPlace}
use Rattle.s2ix_table_parts.specs.FaceSpans.{face_begin}
use Rattle.s2ix_table_parts.specs.Neighbours.{held_in}
use Rattle.s2ix_table_parts.specs.Layered.{AreHeavyPlaces, HaveOtherCells, IsFaceLayered, IsFaceWith}
use Rattle.s2ix_table_parts.specs.Layers.{ShareNoCell, joined_layers}
use Rattle.s2ix_table_parts.proofs.HeavyChanged.{heavy_apart, heavy_layer}
use Rattle.s2ix_table_parts.proofs.Layers.{cells_part_pairs, length_joined_layers}
use Rattle.s2ix_table_parts.proofs.Neighbours.{all_rise}

-- over each part lie the pairs of the same chunks
heavy_places_stay : (old new : List Collection) → LieAlike old new → (ts : List SpanRanges) (heavy_places : List (Option HeavyPlace)) → AreHeavyPlaces old ts heavy_places
    → AreHeavyPlaces new ts heavy_places
heavy_places_stay old new alike [] heavy_places are = are
heavy_places_stay old new alike (t ∷ ts) [] are = absurd are
heavy_places_stay old new alike (t ∷ ts) (over ∷ heavy_places) are = (
  record {
    same = record { same = λ q odd ge lt. alike.same q t.from (are.0.same.same q odd ge lt) };
    leads = alike.leads t.from over are.0.leads;
  },
  heavy_places_stay old new alike ts heavy_places are.1,
)

-- entries of heavy cells are of no light cell
other_cells : (light heavy : Collection) (es : List Entry) → ShareNoCell light heavy
    → ((e : Entry) → Contains es e → HoldsCell heavy e.pair.cell) → HaveOtherCells es light
other_cells light heavy es apart cells e i (l, held, same) =
    let h = cells e i in
    apart l h.0 held h.1 (ap raw_of (same ∙ sym h.2))

-- the heavy pairs then are not too many
pub few_within : (face : ℕ) (ts : List SpanRanges) (heavy_places : List (Option HeavyPlace)) (heavy : List Collection) (es : List Entry)
    → IsFaceLayered face heavy ts heavy_places → IsChangeList es → length (changed (joined_layers (held_in ts) (all_of heavy)) es) ≤ 1000000
    → ((e : Entry) → Contains es e → HoldsCell (all_of heavy) e.pair.cell) → length (changed (all_of heavy) es) ≤ 1000000
few_within face ts heavy_places heavy es was rise within_limit cells =
    let light = held_in ts in
    let c = all_rise (face_begin face) ts (face_begin (face + 1)) was.neighbours in
    let d = was.are_chunks.rises in
    let other = other_cells light (all_of heavy) es was.apart cells in
    let whole = ap (λ (hs : Collection). length hs) (heavy_layer light (all_of heavy) es c d was.apart rise other) in
    let sum = length_joined_layers light (changed (all_of heavy) es) c (changed_keeps (all_of heavy) es d rise)
    (cells_part_pairs light (changed (all_of heavy) es) (heavy_apart light (all_of heavy) es was.apart other)) in
    omega arith

-- the face with the changed chunk in its place
pub face_within : (face k : ℕ) (ts : List SpanRanges) (heavy_places : List (Option HeavyPlace)) (heavy : List Collection) (new : Collection)
    (es : List Entry) → IsFaceLayered face heavy ts heavy_places → IsChangeList es
    → ((e : Entry) → Contains es e → HoldsCell (all_of heavy) e.pair.cell) → all_of (set heavy k new) ≡ changed (all_of heavy) es
    → FitsChunk heavy k new → LieAlike heavy (set heavy k new)
    → IsFaceWith face (changed (joined_layers (held_in ts) (all_of heavy)) es) ts heavy_places 0 0 [] [] (set heavy k new)
face_within face k ts heavy_places heavy new es was rise cells pairs fits alike =
    let light = held_in ts in
    let c = all_rise (face_begin face) ts (face_begin (face + 1)) was.neighbours in
    let d = was.are_chunks.rises in
    let other = other_cells light (all_of heavy) es was.apart cells in
    record {
      order = omega arith;
      within = omega arith;
      same_length = refl;
      layered = record {
        neighbours = was.neighbours;
        are_chunks = fits.are_chunks;
        on_face = λ h held.
            let old = alike.cells h.pair.cell (h, held, refl) in
            ap face_of (sym old.2) ∙ was.on_face old.0 old.1;
        apart = subst (ShareNoCell light) (sym pairs) (heavy_apart light (all_of heavy) es was.apart other);
        are_heavy_places = heavy_places_stay heavy (set heavy k new) alike ts heavy_places was.are_heavy_places;
      };
      pairs = ap (joined_layers light) pairs ∙ sym (heavy_layer light (all_of heavy) es c d was.apart rise other);
    }
