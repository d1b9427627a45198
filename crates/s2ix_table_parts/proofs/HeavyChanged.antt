-- What a change of heavy cells makes of a face: its light pairs stay, and other heavy pairs lie over them.
use Rattle.std.proofs.Common.{◌≡◌, ℕ, ◌+◌, Option, List, length, sym, ap, ap₂, ◌∙◌, arith, subst}
use Rattle.s2ix_bag_lists.specs.Faces.{all_of}
use Rattle.s2ix_bag_pairs.specs.Change.{IsChangeList, changed}
use Rattle.s2ix_bag_pairs.specs.Collection.{Collection, IsCollection}
use Rattle.s2ix_bag_pairs.specs.declared.pair.Entry.{Entry}
use Rattle.s2ix_bag_pairs.proofs.Changes.{changed_keeps}
use Rattle.s2ix_bag_pairs.proofs.Collections.{same_collection}
use Rattle.s2ix_table_spans.specs.SpanTable.{SpanRanges}
use Rattle.s2ix_table_heavy.specs.Chunks.{AreChunks}
use Rattle.s2ix_table_heavy.specs.declared.heavy_place.HeavyPlace.{HeavyPlace}
use Rattle.s2ix_table_parts.specs.FaceSpans.{AreOnFace, face_begin}
use Rattle.s2ix_table_parts.specs.Neighbours.{held_in}
use Rattle.s2ix_table_parts.specs.Layered.{AreLightParts, HaveOtherCells, IsFaceLayered, IsFaceWith}
use Rattle.s2ix_table_parts.specs.Layers.{ShareNoCell, joined_layers}
use Rattle.s2ix_table_parts.proofs.FaceWith.{all_given, length_heavy_places}
use Rattle.s2ix_table_parts.proofs.Layers.{cells_part_pairs, count_joined_layers, joined_layers_rise}
use Rattle.s2ix_table_parts.proofs.LightChanged.{light_layer, still_apart}
use Rattle.s2ix_table_parts.proofs.Neighbours.{all_rise}

-- ---- the layers in the other order

apart_turned : (light heavy : Collection) → ShareNoCell light heavy → ShareNoCell heavy light
apart_turned light heavy apart h l in_heavy in_light same = apart l h in_light in_heavy (sym same)

joined_layers_turned : (light heavy : Collection) → IsCollection light → IsCollection heavy → ShareNoCell light heavy
    → joined_layers light heavy ≡ joined_layers heavy light
joined_layers_turned light heavy c d apart =
    same_collection (joined_layers light heavy) (joined_layers heavy light) (joined_layers_rise light heavy c) (joined_layers_rise heavy light d) (λ p.
    let one = count_joined_layers light heavy p c d (cells_part_pairs light heavy apart) in
    let other = count_joined_layers heavy light p d c (cells_part_pairs heavy light (apart_turned light heavy apart)) in
    omega (arith, one, other))

-- ---- the heavy layer changes alone

-- the light cells are still none of the heavy ones
pub heavy_apart : (light heavy : Collection) (es : List Entry) → ShareNoCell light heavy → HaveOtherCells es light
    → ShareNoCell light (changed heavy es)
heavy_apart light heavy es apart other =
    apart_turned (changed heavy es) light (still_apart heavy light es (apart_turned light heavy apart) other)

-- a change beside all light cells changes the heavy layer alone
pub heavy_layer : (light heavy : Collection) (es : List Entry) → IsCollection light → IsCollection heavy → ShareNoCell light heavy
    → IsChangeList es → HaveOtherCells es light → changed (joined_layers light heavy) es ≡ joined_layers light (changed heavy es)
heavy_layer light heavy es c d apart rise other =
    ap (λ hs. changed hs es) (joined_layers_turned light heavy c d apart)
    ∙ light_layer heavy light es d other
    ∙ sym (joined_layers_turned light (changed heavy es) c (changed_keeps heavy es d rise) (heavy_apart light heavy es apart other))

-- ---- the face then

-- other heavy pairs lie over the same light pairs
pub under_chunks : (face count first end : ℕ) (ts made : List SpanRanges) (heavy_places made_heavy_places : List (Option HeavyPlace))
    (heavy now : List Collection) (es : List Entry) → first ≡ 0 → end ≡ count → count ≡ length ts
    → IsFaceLayered face heavy ts heavy_places → IsChangeList es → HaveOtherCells es (held_in ts) → AreOnFace face (changed (all_of heavy) es)
    → AreChunks now → all_of now ≡ changed (all_of heavy) es
    → AreLightParts now (held_in ts) (face_begin face) made made_heavy_places (face_begin (face + 1))
    → IsFaceWith face (changed (joined_layers (held_in ts) (all_of heavy)) es) ts heavy_places first end made made_heavy_places now
under_chunks face count first end ts made heavy_places made_heavy_places heavy now es none last all was rise other on_face are_chunks pairs laid =
    let light : Collection = held_in ts in
    let c = all_rise (face_begin face) ts (face_begin (face + 1)) was.neighbours in
    let back = sym pairs in
    let apart : ShareNoCell light (all_of now) = subst (ShareNoCell light) back (heavy_apart light (all_of heavy) es was.apart other) in
    all_given face count first end (changed (joined_layers light (all_of heavy)) es) ts made heavy_places made_heavy_places now none last all
    (length_heavy_places heavy ts heavy_places was.are_heavy_places)
    (record {
      neighbours = laid.neighbours;
      are_chunks = are_chunks;
      on_face = subst (AreOnFace face) back on_face;
      apart = subst (λ (hs : Collection). ShareNoCell hs (all_of now)) (sym laid.pairs) apart;
      are_heavy_places = laid.are_heavy_places;
    })
    (ap₂ joined_layers laid.pairs pairs ∙ sym (heavy_layer light (all_of heavy) es c was.are_chunks.rises was.apart rise other))
