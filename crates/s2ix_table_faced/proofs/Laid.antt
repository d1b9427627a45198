-- What a layout of parts under heavy pairs says of the tables that the parts show.
use Rattle.std.proofs.Common.{◌≡◌, ◌↔◌, ℕ, zero, suc, ◌+◌, ◌-◌, ◌<◌, Bool, IsTrue, List, [], ◌∷◌, length, get_or, ap, ap₂, arith, sym, ◌∙◌, Contains, subst}
use Rattle.std.proofs.lemmas.List.Elements.{Contains-append_left, Contains-append_right}
use Rattle.s2ix_bag_pairs.specs.declared.pair.Held.{Held}
use Rattle.s2ix_table_walk.proofs.Over.{in_contents}
use Rattle.s2ix_table_parts.proofs.Layers.{cells_part_pairs, joined_layers_rise}
use Rattle.std.proofs.lemmas.List.{length-map}
use Rattle.s2ix_bag_pairs.specs.Collection.{Collection, IsCollection}
use Rattle.s2ix_table_walk.specs.Contents.{contents_at}
use Rattle.s2ix_table_walk.specs.Table.{Range, leaf_end}
use Rattle.s2ix_table_spans.specs.SpanTable.{SpanRanges}
use Rattle.s2ix_table_heavy.specs.declared.heavy_place.HeavyPlace.{HeavyPlace}
use Rattle.std.specs.Prelude.{Option}
use Rattle.s2ix_table_faced.specs.declared.offset.Offset.{Offset}
use Rattle.s2ix_table_parts.specs.FaceSpans.{no_table, spans_of, starts_of, table_of, TablePart}
use Rattle.s2ix_table_parts.specs.Neighbours.{AreNeighbours, held_in}
use Rattle.s2ix_table_faced.specs.Joined.{joined_ranges}
use Rattle.s2ix_table_faced.specs.Layout.{AreAllUnder, IsSameOver, IsLayout, cover, covered, heavy_in, with_over}
use Rattle.s2ix_table_parts.specs.Layers.{ShareNoCell, ShareNoPair, joined_layers}
use Rattle.s2ix_table_faced.specs.Offsets.{offset_after, offsets_of}
use Rattle.s2ix_table_faced.specs.Whole.{AreJoined}
use Rattle.s2ix_table_faced.proofs.Covered.{covered_at, covered_over}
use Rattle.s2ix_table_faced.proofs.HeavyFaces.{all_under, heavy_rises}
use Rattle.s2ix_table_parts.proofs.Cuts.{cut, cut_is, cut_to}
use Rattle.s2ix_table_faced.proofs.Joining.{AreOverSpans}
use Rattle.s2ix_table_parts.proofs.Neighbours.{all_rise}
use Rattle.s2ix_table_faced.proofs.RangesOver.{length_over}
use Rattle.s2ix_table_parts.proofs.Shared.{many_shared, seen_at}

pub laid_heavy : {parts : List SpanRanges} {heavy : List (List Collection)} {heavy_places : List (Option HeavyPlace)} → IsLayout parts heavy heavy_places
    → IsCollection (heavy_in heavy)
laid_heavy {parts} {heavy} {heavy_places} is = heavy_rises heavy is.layered.six is.layered.on_faces is.chunks

pub laid_under : {parts : List SpanRanges} {heavy : List (List Collection)} {heavy_places : List (Option HeavyPlace)} → IsLayout parts heavy heavy_places
    → AreAllUnder (heavy_in heavy) parts
laid_under {parts} {heavy} {heavy_places} is = all_under parts heavy heavy_places is.neighbours is.layered

-- the parts, covered, are tables of all pairs
pub laid_over : {parts : List SpanRanges} {heavy : List (List Collection)} {heavy_places : List (Option HeavyPlace)} → IsLayout parts heavy heavy_places
    → AreOverSpans (joined_layers (held_in parts) (heavy_in heavy)) 1 (covered (heavy_in heavy) parts) leaf_end
laid_over {parts} {heavy} {heavy_places} is = covered_over (heavy_in heavy) 1 parts leaf_end is.neighbours (laid_heavy is) (laid_under is) is.apart

pub many_covered : (heavy : Collection) (parts : List SpanRanges) → length (covered heavy parts) ≡ length parts
many_covered heavy parts = length-map parts (cover heavy)

-- the ranges of a covered part
pub covered_ranges : (heavy : Collection) (parts : List SpanRanges) (i : ℕ) → i < length parts
    → (table_of (covered heavy parts) i).ranges ≡ with_over (contents_at (table_of parts i).from heavy) (table_of parts i).ranges
covered_ranges heavy parts i lt = ap (λ (t : SpanRanges). t.ranges) (covered_at heavy parts i no_table no_table lt)

-- the offset after one part is that of the next, by their ranges and the heavy pairs over them
pub after_covered : (heavy : Collection) (parts : List SpanRanges) (i j : ℕ) (last : Offset) → i < length parts → j < length parts
    → offset_after last (with_over (contents_at (table_of parts i).from heavy) (table_of parts i).ranges)
    (with_over (contents_at (table_of parts j).from heavy) (table_of parts j).ranges)
    ≡ offset_after last (table_of (covered heavy parts) i).ranges (table_of (covered heavy parts) j).ranges
after_covered heavy parts i j last one other =
    ap (λ (rs : List Range). offset_after last rs (with_over (contents_at (table_of parts j).from heavy) (table_of parts j).ranges)) (sym (covered_ranges heavy parts i one))
    ∙ ap (λ (rs : List Range). offset_after last (table_of (covered heavy parts) i).ranges rs) (sym (covered_ranges heavy parts j other))

-- the offset of a part that is read, by the one before it
pub after_laid : (parts : List TablePart) (heavy : Collection) (last offset : Offset) (n : ℕ) (d e : TablePart) (one next : SpanRanges)
    → 0 < n → n < length parts → one ≡ (get_or parts (n - 1) d).table → next ≡ (get_or parts n e).table
    → offset ≡ offset_after last (with_over (contents_at (table_of (spans_of parts) (n - 1)).from heavy) one.ranges)
    (with_over (contents_at (table_of (spans_of parts) n).from heavy) next.ranges)
    → offset ≡ offset_after last (table_of (covered heavy (spans_of parts)) (n - 1)).ranges (table_of (covered heavy (spans_of parts)) n).ranges
after_laid parts heavy last offset n d e one next some lt is_one is_next is =
    let spans = spans_of parts in
    let many = many_shared parts in
    let over = contents_at (table_of spans (n - 1)).from heavy in
    let next_over = contents_at (table_of spans n).from heavy in
    is
    ∙ ap₂ (λ (s t : SpanRanges). offset_after last (with_over over s.ranges) (with_over next_over t.ranges))
    (seen_at parts (n - 1) d one (omega arith) is_one) (seen_at parts n e next lt is_next)
    ∙ after_covered heavy spans (n - 1) n last (omega arith) (omega arith)

-- a covered part has as many ranges
pub same_count : (heavy : Collection) (parts : List SpanRanges) (i : ℕ) → i < length parts
    → length (table_of (covered heavy parts) i).ranges ≡ length (table_of parts i).ranges
same_count heavy parts i lt =
    ap (λ (rs : List Range). length rs) (covered_ranges heavy parts i lt) ∙ length_over (contents_at (table_of parts i).from heavy) (table_of parts i).ranges

-- a part ends where the next one begins
pub parts_meet : (parts : List SpanRanges) (i j : ℕ) → AreNeighbours 1 parts leaf_end → i + 1 ≡ j → j < length parts
    → (table_of parts i).to ≡ (table_of parts j).from
parts_meet parts i j are next lt =
    let to = cut_to i 1 parts leaf_end no_table are (omega arith) in
    let from = cut_is j 1 parts leaf_end no_table are (omega arith) in
    let same = ap (λ n. cut n 1 parts) (let e : suc i ≡ j = omega arith in e) in
    omega arith

-- the heavy pairs over one part are none of the light pairs of another
pub over_shares_none : (parts : List SpanRanges) (heavy : Collection) (i j : ℕ) → ShareNoCell (held_in parts) heavy → i < length parts
    → ShareNoPair (table_of parts i).held (contents_at (table_of parts j).from heavy)
over_shares_none parts heavy i j apart lt l h held there same =
    let own = in_parts parts i l lt held in
    let other = (in_contents (table_of parts j).from heavy h there).0 in
    cells_part_pairs (held_in parts) heavy apart l h own other same
  where
    in_parts : (ts : List SpanRanges) (k : ℕ) (l : Held) → k < length ts → Contains (table_of ts k).held l → Contains (held_in ts) l
    in_parts [] k l less held = absurd (omega arith)
    in_parts (t ∷ ts) zero l less held = Contains-append_left t.held (held_in ts) l held
    in_parts (t ∷ ts) (suc k) l less held = Contains-append_right t.held (held_in ts) l (in_parts ts k l (omega arith) held)

pub is_same_over : {parts : List SpanRanges} {heavy : List (List Collection)} {heavy_places : List (Option HeavyPlace)} (i j : ℕ) (one next : SpanRanges) (same : Bool)
    → IsLayout parts heavy heavy_places → i < length parts → j < length parts → one ≡ table_of parts i → next ≡ table_of parts j
    → IsTrue same ↔ (contents_at (table_of parts i).from (heavy_in heavy) ≡ contents_at (table_of parts j).from (heavy_in heavy))
    → IsSameOver one.held next.held (contents_at (table_of parts i).from (heavy_in heavy)) (contents_at (table_of parts j).from (heavy_in heavy)) same
is_same_over {parts} {heavy} {heavy_places} i j one next same is lt less first second decided = record {
  decided = decided;
  apart = subst (λ (t : SpanRanges). ShareNoPair t.held (contents_at (table_of parts j).from (heavy_in heavy))) (sym first)
      (over_shares_none parts (heavy_in heavy) i j is.apart lt);
  next_apart = subst (λ (t : SpanRanges). ShareNoPair t.held (contents_at (table_of parts i).from (heavy_in heavy))) (sym second)
      (over_shares_none parts (heavy_in heavy) j i is.apart less);
}

-- what is kept beside the parts of a layout, is that of the table
pub laid_joined : {parts : List SpanRanges} {heavy : List (List Collection)} {heavy_places : List (Option HeavyPlace)} (starts : List ℕ) (offsets : List Offset)
    (count : ℕ) → IsLayout parts heavy heavy_places → starts ≡ starts_of parts → offsets ≡ offsets_of (covered (heavy_in heavy) parts)
    → count ≡ length (joined_ranges (covered (heavy_in heavy) parts)) → AreJoined parts (heavy_in heavy) starts offsets count
laid_joined {parts} {heavy} {heavy_places} starts offsets count is begins places counts = record {
  neighbours = is.neighbours;
  heavy_rises = laid_heavy is;
  under = laid_under is;
  apart = is.apart;
  starts_are = begins;
  offsets_are = places;
  within_limit = is.within_limit;
  counted = counts;
}

-- all pairs rise
pub laid_rises : {parts : List SpanRanges} {heavy : List (List Collection)} {heavy_places : List (Option HeavyPlace)} → IsLayout parts heavy heavy_places
    → IsCollection (joined_layers (held_in parts) (heavy_in heavy))
laid_rises {parts} {heavy} {heavy_places} is = joined_layers_rise (held_in parts) (heavy_in heavy) (all_rise 1 parts leaf_end is.neighbours)
