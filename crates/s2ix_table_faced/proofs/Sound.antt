-- What holds of a table in parts, by what its lists have.
use Rattle.std.proofs.Common.{◌≡◌, ℕ, Option, List, sym, subst}
use Rattle.s2ix_bag_pairs.specs.Collection.{Collection, IsCollection}
use Rattle.s2ix_table_walk.specs.Shown.{AreBorders}
use Rattle.s2ix_table_walk.specs.Table.{IsRangeTable}
use Rattle.s2ix_table_spans.specs.Once.{KeepsOnce}
use Rattle.s2ix_table_spans.specs.SpanTable.{SpanRanges}
use Rattle.s2ix_table_heavy.specs.declared.heavy_place.HeavyPlace.{HeavyPlace}
use Rattle.s2ix_table_faced.specs.declared.faced_table.FacedTable.{FacedTable}
use Rattle.s2ix_table_faced.specs.declared.offset.Offset.{Offset}
use Rattle.s2ix_table_parts.specs.FaceSpans.{heavy_places_of, spans_of}
use Rattle.s2ix_table_parts.specs.Neighbours.{held_in}
use Rattle.s2ix_table_faced.specs.Joined.{joined_ranges}
use Rattle.s2ix_table_faced.specs.Layout.{AreLayered, IsLayout, covered, heavy_in}
use Rattle.s2ix_table_parts.specs.Layers.{joined_layers}
use Rattle.s2ix_table_faced.specs.Offsets.{places_of}
use Rattle.s2ix_table_faced.specs.PartPlaces.{faced_chain}
use Rattle.s2ix_table_faced.specs.Whole.{AreJoined}
use Rattle.s2ix_table_faced.proofs.Bordering.{parts_begin}
use Rattle.s2ix_table_faced.proofs.Laid.{laid_rises}
use Rattle.s2ix_table_faced.proofs.LaidOnce.{laid_once}
use Rattle.s2ix_table_faced.proofs.Reading.{all_table}

pub record IsSound (parts : List SpanRanges) (heavy_places : List (Option HeavyPlace)) (starts : List ℕ) (offsets : List Offset) (heavy : List (List Collection)) (count : ℕ) : Type 0 where
  pub joined : AreJoined parts (heavy_in heavy) starts offsets count
  pub layered : AreLayered heavy parts heavy_places
  pub rises : IsCollection (joined_layers (held_in parts) (heavy_in heavy))
  pub table : IsRangeTable (joined_layers (held_in parts) (heavy_in heavy)) (joined_ranges (covered (heavy_in heavy) parts))
  pub bordered : AreBorders (joined_ranges (covered (heavy_in heavy) parts)) (places_of offsets)
  pub once : KeepsOnce (faced_chain parts heavy)

-- it holds of a table
pub sound_of : (t : FacedTable)
    → IsSound (spans_of t.parts.items) (heavy_places_of t.parts.items) t.begins.starts.items t.offsets.items t.heavy t.count
sound_of t = record {
  joined = t.joined;
  layered = t.layered;
  rises = t.rises;
  table = t.table;
  bordered = t.bordered;
  once = t.once;
}

-- it holds of lists that have the same
pub same_lists : {parts same_parts : List SpanRanges} {heavy_places same_heavy_places : List (Option HeavyPlace)} {starts same_starts : List ℕ}
    {offsets same_offsets : List Offset} {heavy : List (List Collection)} {count : ℕ} → same_parts ≡ parts
    → same_heavy_places ≡ heavy_places → same_starts ≡ starts → same_offsets ≡ offsets → IsSound parts heavy_places starts offsets heavy count
    → IsSound same_parts same_heavy_places same_starts same_offsets heavy count
same_lists {parts} {same_parts} {heavy_places} {same_heavy_places} {starts} {same_starts} {offsets} {same_offsets} {heavy} {count} p o s f is =
    subst (λ xs. IsSound xs same_heavy_places same_starts same_offsets heavy count) (sym p)
    (subst (λ xs. IsSound parts xs same_starts same_offsets heavy count) (sym o)
    (subst (λ xs. IsSound parts heavy_places xs same_offsets heavy count) (sym s)
    (subst (λ xs. IsSound parts heavy_places starts xs heavy count) (sym f) is)))

-- it holds of a layout, if the lists beside the parts are theirs
pub laid_sound : {parts : List SpanRanges} {heavy : List (List Collection)} {heavy_places : List (Option HeavyPlace)} {starts : List ℕ} {offsets : List Offset}
    {count : ℕ} → IsLayout parts heavy heavy_places → AreJoined parts (heavy_in heavy) starts offsets count
    → IsSound parts heavy_places starts offsets heavy count
laid_sound is joined = record {
  joined = joined;
  layered = is.layered;
  rises = laid_rises is;
  table = all_table joined;
  bordered = parts_begin joined;
  once = laid_once is;
}
