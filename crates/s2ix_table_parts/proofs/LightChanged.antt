-- What a change of light cells makes of a face with heavy pairs, whose parts give way only where the cells of the entries lie.
use Rattle.std.proofs.Common.{◌≡◌, ℕ, ◌+◌, ◌-◌, ◌*◌, ◌<◌, ◌≤◌, inl, inr, Option, List, [], ◌∷◌, ◌++◌, length, take, drop, refl, sym, ap, ap₂, ◌∙◌, arith, subst, Contains}
use Rattle.std.proofs.lemmas.Bool.{cases_eq, cases_lt}
use Rattle.std.proofs.lemmas.List.{drop-drop, length-append, length-drop, length-take-le}
use Rattle.s2id_core.specs.CellId.{raw_of, first_of, end_of}
use Rattle.s2id_core.specs.declared.cell_id.CellId.{CellId}
use Rattle.s2id_core.specs.Span.{leaf_end}
use Rattle.s2id_core.proofs.Cells.{same_cell}
use Rattle.s2id_core.proofs.Lists.{at_head, in_tail}
use Rattle.s2ix_bag_lists.specs.Faces.{all_of}
use Rattle.s2ix_bag_lists.proofs.Joined.{changed_between}
use Rattle.s2ix_bag_pairs.specs.Change.{IsChangeList, changed}
use Rattle.s2ix_bag_pairs.specs.Collection.{Collection, IsCollection, count_at, set_count}
use Rattle.s2ix_bag_pairs.specs.Pair.{rank_of}
use Rattle.s2ix_bag_pairs.specs.declared.pair.Entry.{Entry}
use Rattle.s2ix_bag_pairs.specs.declared.pair.Held.{Held}
use Rattle.s2ix_bag_pairs.specs.declared.pair.Pair.{Pair}
use Rattle.s2ix_bag_pairs.proofs.Changes.{changed_keeps}
use Rattle.s2ix_bag_pairs.proofs.Collections.{same_collection, count_set_other, count_set_same, set_keeps}
use Rattle.s2ix_bag_pairs.proofs.Pairs.{same_pair}
use Rattle.s2ix_table_spans.specs.Blocks.{HoldsCell}
use Rattle.s2ix_table_spans.specs.SpanTable.{SpanRanges, IsInSpan}
use Rattle.s2ix_table_heavy.specs.declared.heavy_place.HeavyPlace.{HeavyPlace}
use Rattle.s2ix_table_parts.specs.FaceSpans.{face_begin, no_table}
use Rattle.s2ix_table_parts.specs.Neighbours.{AreNeighbours, held_in}
use Rattle.s2ix_table_parts.specs.Layered.{AreLightParts, HaveLightCells, IsFaceLayered, IsFaceWith}
use Rattle.s2ix_table_parts.specs.Layers.{ShareNoCell, joined_layers}
use Rattle.s2ix_table_parts.specs.Parts.{EntriesBeginFrom, EntriesEndBy, AreTouched, with_parts}
use Rattle.s2ix_table_parts.proofs.Appended.{below_cut, from_cut}
use Rattle.s2ix_table_parts.proofs.Cuts.{all_end, between, back, cut, cut_end, cut_is, front, neighbours_rise}
use Rattle.s2ix_table_heavy.proofs.ChangedCells.{changed_cells}
use Rattle.s2ix_table_parts.proofs.Cutting.{entries_below, entries_from, held_append, held_split, neighbours_append, some_span}
use Rattle.s2ix_table_parts.proofs.FaceWith.{length_heavy_places, heavy_places_append, heavy_places_dropped, heavy_places_taken}
use Rattle.s2ix_table_parts.proofs.Layers.{cells_part_pairs, length_joined_layers}
use Rattle.s2ix_table_parts.proofs.Neighbours.{all_begin, all_rise}

-- ---- the light layer changes alone

-- the counts of two pairs can be set in either order
set_either : (p q : Pair) (n m : ℕ) (hs : Collection) → IsCollection hs → (rank_of p ≡ rank_of q → ⊥)
    → set_count p n (set_count q m hs) ≡ set_count q m (set_count p n hs)
set_either p q n m hs c other =
    let one = set_count p n hs in
    let two = set_count q m hs in
    let one_is = set_keeps p n hs c in
    let two_is = set_keeps q m hs c in
    same_collection (set_count p n two) (set_count q m one) (set_keeps p n two two_is) (set_keeps q m one one_is) (λ r.
    let k = rank_of r in
    elim (cases_eq (rank_of p) k) [
      | inl e ↦
          ap (count_at (set_count p n two)) (sym e) ∙ count_set_same 0 p n two two_is
          ∙ sym (count_set_other q m one k (λ f. other (e ∙ sym f)) ∙ ap (count_at one) (sym e) ∙ count_set_same 0 p n hs c)
      | inr np ↦
          elim (cases_eq (rank_of q) k) [
            | inl e ↦
                count_set_other p n two k np ∙ ap (count_at two) (sym e) ∙ count_set_same 0 q m hs c
                ∙ sym (ap (count_at (set_count q m one)) (sym e) ∙ count_set_same 0 q m one one_is)
            | inr nq ↦
                count_set_other p n two k np ∙ count_set_other q m hs k nq
                ∙ sym (count_set_other q m one k nq ∙ count_set_other p n hs k np)
          ]
    ])

-- the count of a pair that isn't heavy is set in the light layer
set_light : (p : Pair) (n : ℕ) (light heavy : Collection) → IsCollection light
    → ((h : Held) → Contains heavy h → rank_of p ≡ rank_of h.pair → ⊥)
    → set_count p n (joined_layers light heavy) ≡ joined_layers (set_count p n light) heavy
unfolding joined_layers
set_light p n light [] c other = refl
set_light p n light (h ∷ hs) c other =
    set_light p n (set_count h.pair h.count light) hs (set_keeps h.pair h.count light c) (λ x is. other x (in_tail h hs x is))
    ∙ ap (λ ls. joined_layers ls hs) (set_either p h.pair n h.count light c (other h (at_head h hs)))

-- a change of light cells changes the light layer alone
pub light_layer : (light heavy : Collection) (es : List Entry) → IsCollection light → HaveLightCells es heavy
    → changed (joined_layers light heavy) es ≡ joined_layers (changed light es) heavy
light_layer light heavy [] c are = refl
light_layer light heavy (e ∷ es) c are =
    let own : (h : Held) → Contains heavy h → rank_of e.pair ≡ rank_of h.pair → ⊥ =
    λ h is same. are e (at_head e es) (h, is, ap (λ (p : Pair). p.cell) (sym (same_pair e.pair h.pair same))) in
    ap (λ hs. changed hs es) (set_light e.pair e.after light heavy c own)
    ∙ light_layer (set_count e.pair e.after light) heavy es (set_keeps e.pair e.after light c) (λ x is. are x (in_tail e es x is))

-- and its cells are still none of the heavy ones
pub still_apart : (light heavy : Collection) (es : List Entry) → ShareNoCell light heavy → HaveLightCells es heavy
    → ShareNoCell (changed light es) heavy
still_apart light heavy es apart are l h in_light in_heavy same =
    changed_cells (λ (c : CellId). HoldsCell heavy c → ⊥) light es (λ x is held. apart x held.0 is held.1 (ap raw_of (sym held.2))) are l in_light
    (h, in_heavy, sym (same_cell l.pair.cell h.pair.cell same))

-- ---- the parts that the entries touch

-- neighbouring parts, of which so many from one on go over the leaves between two numbers
pub record AreAround (start : ℕ) (ts : List SpanRanges) (stop first count from to : ℕ) : Type 0 where
  pub front : AreNeighbours start (take first ts) from
  pub mid : AreNeighbours from (take count (drop first ts)) to
  pub back : AreNeighbours to (drop (first + count) ts) stop

cut_at : (start : ℕ) (ts : List SpanRanges) (stop : ℕ) (es : List Entry) (first end from to : ℕ) → AreNeighbours start ts stop
    → AreTouched ts es stop first end from to → (from ≡ cut first start ts) × (to ≡ cut end start ts)
cut_at start ts stop es first end from to are is =
    let some = is.some in
    let within = is.within in
    let begins = is.begins ∙ cut_is first start ts stop no_table are (omega arith) in
    elim (cases_lt end (length ts)) [
      | inl lt ↦ (begins, is.ends lt ∙ cut_is end start ts stop no_table are lt)
      | inr le ↦
          (let all : end ≡ length ts = omega arith in
          (begins, is.ends_all all ∙ sym (cut_end end start ts stop are all)))
    ]

pub around : (start : ℕ) (ts : List SpanRanges) (stop : ℕ) (es : List Entry) (first end from to : ℕ) → AreNeighbours start ts stop
    → AreTouched ts es stop first end from to → AreAround start ts stop first (end - first) from to
around start ts stop es first end from to are is =
    let some = is.some in
    let within = is.within in
    let n = end - first in
    let sum : first + n ≡ end = omega arith in
    let at = cut_at start ts stop es first end from to are is in
    let ends : to ≡ cut (first + n) start ts = at.1 ∙ ap (λ k. cut k start ts) (sym sum) in
    record {
      front = subst (AreNeighbours start (take first ts)) (sym at.0) (front first start ts stop are (omega arith));
      mid = subst (λ a. AreNeighbours a (take n (drop first ts)) to) (sym at.0)
          (subst (AreNeighbours (cut first start ts) (take n (drop first ts))) (sym ends) (between first n start ts stop are (omega arith)));
      back = subst (λ b. AreNeighbours b (drop (first + n) ts) stop) (sym ends) (back (first + n) start ts stop are (omega arith));
    }

-- what the change makes of all light pairs: only those of the touched parts change
pub touched_changed : (start : ℕ) (ts : List SpanRanges) (stop first count from to : ℕ) (es : List Entry)
    → AreAround start ts stop first count from to → EntriesBeginFrom es from → EntriesEndBy es to → IsChangeList es
    → changed (held_in ts) es
    ≡ held_in (take first ts) ++ (changed (held_in (take count (drop first ts))) es ++ held_in (drop (first + count) ts))
touched_changed start ts stop first count from to es are begin end rise =
    let before : Collection = held_in (take first ts) in
    let own : Collection = held_in (take count (drop first ts)) in
    let after : Collection = held_in (drop (first + count) ts) in
    let rest : held_in (drop first ts) ≡ own ++ after =
    sym (held_split count (drop first ts)) ∙ ap (λ xs. own ++ held_in xs) (drop-drop count first ts) in
    ap (λ hs. changed hs es) (sym (held_split first ts) ∙ ap (λ hs. before ++ hs) rest)
    ∙ changed_between (from * 2147483648) (to * 2147483648) before own after es
    (below_cut from before (all_end start (take first ts) from are.front))
    (from_cut to after (all_rise to (drop (first + count) ts) stop are.back) (all_begin to (drop (first + count) ts) stop are.back))
    (entries_from from 0 es rise begin) (entries_below to es end)

-- the light pairs of the touched parts: before the change, and then, over its leaves
pub record AreTouchedPairs (before after : Collection) (from to : ℕ) : Type 0 where
  pub rises : IsCollection before
  pub rises_then : IsCollection after
  pub within_limit : length after ≤ 1000000
  pub span : IsInSpan after from to
  pub leaves : to ≤ leaf_end

touched_few : (before own after light heavy all : Collection) → light ≡ before ++ (own ++ after) → all ≡ joined_layers light heavy
    → IsCollection light → IsCollection heavy → ShareNoCell light heavy → length all ≤ 1000000 → length own ≤ 1000000
touched_few before own after light heavy all split both c d apart within_limit =
    let whole = ap (λ (hs : Collection). length hs) both in
    let sum = length_joined_layers light heavy c d (cells_part_pairs light heavy apart) in
    let parts = ap (λ (hs : Collection). length hs) split in
    let one = length-append before (own ++ after) in
    let two = length-append own after in
    omega arith

some_parts : (first end : ℕ) (ts : List SpanRanges) → first < end → end ≤ length ts → 0 < length (take (end - first) (drop first ts))
some_parts first end ts lt le =
    let left = length-drop first ts in
    let taken = length-take-le (end - first) (drop first ts) (omega arith) in
    omega arith

pub touched_pairs : (face : ℕ) (ts : List SpanRanges) (heavy_places : List (Option HeavyPlace)) (heavy : List Collection) (es : List Entry)
    (first end from to : ℕ) (before : Collection) → face < 6 → IsFaceLayered face heavy ts heavy_places
    → AreTouched ts es (face_begin (face + 1)) first end from to → IsChangeList es → HaveLightCells es (all_of heavy)
    → length (changed (joined_layers (held_in ts) (all_of heavy)) es) ≤ 1000000 → before ≡ held_in (take (end - first) (drop first ts))
    → AreTouchedPairs before (changed before es) from to
touched_pairs face ts heavy_places heavy es first end from to before six was is rise light within_limit same =
    let start = face_begin face in
    let stop = face_begin (face + 1) in
    let n = end - first in
    let own = take n (drop first ts) in
    let parts = around start ts stop es first end from to was.neighbours is in
    let by = neighbours_rise to (drop (first + n) ts) stop parts.back in
    let c = all_rise start ts stop was.neighbours in
    let span = some_span from own to parts.mid (some_parts first end ts is.some is.within) in
    subst (λ hs. AreTouchedPairs hs (changed hs es) from to) (sym same) (record {
      rises = all_rise from own to parts.mid;
      rises_then = changed_keeps (held_in own) es (all_rise from own to parts.mid) rise;
      within_limit = touched_few (held_in (take first ts)) (changed (held_in own) es) (held_in (drop (first + n) ts)) (changed (held_in ts) es)
          (all_of heavy) (changed (joined_layers (held_in ts) (all_of heavy)) es)
          (touched_changed start ts stop first n from to es parts is.entries_begin is.entries_end rise)
          (light_layer (held_in ts) (all_of heavy) es c light) (changed_keeps (held_in ts) es c rise) was.are_chunks.rises
          (still_apart (held_in ts) (all_of heavy) es was.apart light) within_limit;
      span = record {
        odd = span.0;
        odd_end = span.1;
        some = span.2;
        begins = changed_cells (λ (c : CellId). from ≤ first_of c) (held_in own) es (all_begin from own to parts.mid) is.entries_begin;
        ends = changed_cells (λ (c : CellId). end_of c ≤ to) (held_in own) es (all_end from own to parts.mid) is.entries_end;
      };
      leaves = omega arith;
    })

-- ---- the face then

pub light_with_touched : (face : ℕ) (ts made : List SpanRanges) (heavy_places made_heavy_places : List (Option HeavyPlace)) (heavy now : List Collection)
    (es : List Entry) (first end from to : ℕ) → IsFaceLayered face heavy ts heavy_places
    → AreTouched ts es (face_begin (face + 1)) first end from to → IsChangeList es → HaveLightCells es (all_of heavy) → now ≡ heavy
    → AreLightParts heavy (changed (held_in (take (end - first) (drop first ts))) es) from made made_heavy_places to
    → IsFaceWith face (changed (joined_layers (held_in ts) (all_of heavy)) es) ts heavy_places first end made made_heavy_places now
light_with_touched face ts made heavy_places made_heavy_places heavy now es first end from to was is rise light same are =
    let start = face_begin face in
    let stop = face_begin (face + 1) in
    let n = end - first in
    let some = is.some in
    let sum : first + n ≡ end = omega arith in
    let parts = around start ts stop es first end from to was.neighbours is in
    let back : AreNeighbours to (drop end ts) stop = subst (λ k. AreNeighbours to (drop k ts) stop) sum parts.back in
    let own : Collection = changed (held_in (take n (drop first ts))) es in
    let pairs : held_in (with_parts ts first end made) ≡ changed (held_in ts) es =
    held_append (take first ts) (made ++ drop end ts)
    ∙ ap (λ hs. held_in (take first ts) ++ hs)
    (held_append made (drop end ts) ∙ ap₂ (λ (hs ks : Collection). hs ++ ks) are.pairs (ap (λ k. held_in (drop k ts)) (sym sum)))
    ∙ sym (touched_changed start ts stop first n from to es parts is.entries_begin is.entries_end rise) in
    let c = all_rise start ts stop was.neighbours in
    subst (λ hs. IsFaceWith face (changed (joined_layers (held_in ts) (all_of heavy)) es) ts heavy_places first end made made_heavy_places hs) (sym same) (record {
      order = omega arith;
      within = is.within;
      same_length = length_heavy_places heavy made made_heavy_places are.are_heavy_places;
      layered = record {
        neighbours = neighbours_append start (take first ts) from (made ++ drop end ts) stop parts.front
            (neighbours_append from made to (drop end ts) stop are.neighbours back);
        are_chunks = was.are_chunks;
        on_face = was.on_face;
        apart = subst (λ hs. ShareNoCell hs (all_of heavy)) (sym pairs) (still_apart (held_in ts) (all_of heavy) es was.apart light);
        are_heavy_places = heavy_places_append heavy (take first ts) (made ++ drop end ts) (take first heavy_places) (made_heavy_places ++ drop end heavy_places)
            (heavy_places_taken first heavy ts heavy_places was.are_heavy_places)
            (heavy_places_append heavy made (drop end ts) made_heavy_places (drop end heavy_places) are.are_heavy_places (heavy_places_dropped end heavy ts heavy_places was.are_heavy_places));
      };
      pairs = ap (λ hs. joined_layers hs (all_of heavy)) pairs ∙ sym (light_layer (held_in ts) (all_of heavy) es c light);
    })
