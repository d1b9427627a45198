-- Light pairs in parts over spans over which the heavy pairs are the same.
use Rattle.std.proofs.Common.{◌≡◌, ℕ, ◌+◌, ◌*◌, ◌%◌, ◌<◌, ◌≤◌, Option, List, [], ◌∷◌, ◌++◌, length, replicate, take, drop, refl, sym, ap, ◌∙◌, subst, append_assoc, arith, Contains}
use Rattle.std.proofs.lemmas.List.{length-append, take-append-drop, append-nil}
use Rattle.s2id_core.specs.CellId.{raw_of}
use Rattle.s2id_core.proofs.Lists.{at_head}
use Rattle.s2id_core.proofs.Nested.{span}
use Rattle.s2ix_bag_lists.specs.Faces.{all_of}
use Rattle.s2ix_bag_lists.proofs.Joins.{front_rises}
use Rattle.s2ix_bag_pairs.specs.Collection.{Collection, IsCollection, IsCollectionFrom}
use Rattle.s2ix_bag_pairs.specs.Label.{value_of}
use Rattle.s2ix_bag_pairs.specs.declared.pair.Held.{Held}
use Rattle.s2ix_bag_pairs.proofs.Counts.{from_lower}
use Rattle.s2ix_table_walk.specs.Contents.{contents_at}
use Rattle.s2ix_table_walk.specs.Places.{LeadsTo}
use Rattle.s2ix_table_spans.specs.SpanTable.{SpanRanges, IsInSpan}
use Rattle.s2ix_table_heavy.specs.Chunks.{AreChunks}
use Rattle.s2ix_table_heavy.specs.HeavyChains.{heavy_chain}
use Rattle.s2ix_table_heavy.specs.declared.heavy_place.HeavyPlace.{HeavyPlace}
use Rattle.s2ix_table_parts.specs.Neighbours.{AreNeighbours, held_in}
use Rattle.s2ix_table_parts.specs.FaceSpans.{AreOnFace, face_begin}
use Rattle.s2ix_table_parts.specs.Layered.{IsUnder, AreHeavyPlaces, AreLightParts, IsFaceLayered}
use Rattle.s2ix_table_parts.specs.Layers.{ShareNoCell}
use Rattle.s2ix_table_parts.specs.Parts.{EndsBy, BeginsFrom}
use Rattle.s2ix_table_parts.proofs.Appended.{from_cut}
use Rattle.s2ix_table_parts.proofs.Cuts.{neighbours_rise}
use Rattle.s2ix_table_parts.proofs.Cutting.{neighbours_append, held_append}
use Rattle.s2ix_table_parts.proofs.FaceWith.{heavy_places_append}
use Rattle.s2ix_table_parts.proofs.Parting.{begins_earlier, ends_back, ends_later}

-- ---- parts under the same heavy pairs

-- over each leaf from one number up to another the heavy pairs are those over the first leaf, and this place leads to them
pub record IsOver (chunks : List Collection) (from to : ℕ) (over : Option HeavyPlace) : Type 0 where
  pub leads : LeadsTo (heavy_chain chunks) over (contents_at from (all_of chunks))
  pub same : (q : ℕ) → q % 2 ≡ 1 → from ≤ q → q < to → contents_at q (all_of chunks) ≡ contents_at from (all_of chunks)

is_under : (chunks : List Collection) (start until from to : ℕ) (over : Option HeavyPlace) → IsOver chunks start until over → from % 2 ≡ 1
    → start ≤ from → from < to → to ≤ until → IsUnder chunks from to over
is_under chunks start until from to over is odd ge some le =
    let here = is.same from odd ge (omega arith) in
    record {
      same = record { same = λ q o a b. is.same q o (omega arith) (omega arith) ∙ sym here };
      leads = subst (LeadsTo (heavy_chain chunks) over) (sym here) is.leads;
    }

-- so all parts within such a span have this place
pub all_over : (chunks : List Collection) (start until from : ℕ) (ts : List SpanRanges) (to : ℕ) (over : Option HeavyPlace)
    → IsOver chunks start until over → AreNeighbours from ts to → start ≤ from → to ≤ until → AreHeavyPlaces chunks ts (replicate (length ts) over)
all_over chunks start until from [] to over is are ge le = refl
all_over chunks start until from (t ∷ ts) to over is are ge le =
    let begin = are.0 in
    let within = are.1.within in
    let some = within.some in
    let later = neighbours_rise t.to ts to are.2 in (
      is_under chunks start until t.from t.to over is within.odd (omega arith) some (omega arith),
      all_over chunks start until t.to ts to over is are.2 (omega arith) le,
    )

-- ---- span by span

-- the first light pairs lie in parts up to a leaf number, and the rest has cells from that number on
pub record Layering (chunks : List Collection) (light : Collection) (from to : ℕ) (parts : List SpanRanges) (heavy_places : List (Option HeavyPlace)) (rest : Collection) (start : ℕ) : Type 0 where
  pub neighbours : AreNeighbours from parts start
  pub are_heavy_places : AreHeavyPlaces chunks parts heavy_places
  pub whole : held_in parts ++ rest ≡ light
  pub odd : start % 2 ≡ 1
  pub by : start ≤ to
  pub rises : IsCollectionFrom (start * 2147483648) rest
  pub within_limit : length rest ≤ 1000000
  pub ends : EndsBy rest to

pub layering_start : (chunks : List Collection) (light : Collection) (from to : ℕ) → IsCollection light → length light ≤ 1000000
    → IsInSpan light from to → Layering chunks light from to [] [] light from
layering_start chunks light from to rises within_limit within =
    let some = within.some in
    record {
      neighbours = refl;
      are_heavy_places = refl;
      whole = refl;
      odd = within.odd;
      by = omega arith;
      rises = from_cut from light rises within.begins;
      within_limit = within_limit;
      ends = within.ends;
    }

-- those up to a place of the rest, over the next span
pub own_span : (chunks : List Collection) (light : Collection) (from to : ℕ) (parts : List SpanRanges) (heavy_places : List (Option HeavyPlace))
    (rest : Collection)
    (start end begin last count : ℕ) → Layering chunks light from to parts heavy_places rest start → start < end → end % 2 ≡ 1 → BeginsFrom
    (take count rest) begin
    → start ≤ begin → EndsBy (take count rest) last → last ≤ end → IsInSpan (take count rest) start end
own_span chunks light from to parts heavy_places rest start end begin last count was some odd begins ge ends le =
    record {
      odd = was.odd;
      odd_end = odd;
      some = some;
      begins = begins_earlier begin start (take count rest) ge begins;
      ends = ends_later last end (take count rest) le ends;
    }

pub own_rises : (chunks : List Collection) (light : Collection) (from to : ℕ) (parts : List SpanRanges) (heavy_places : List (Option HeavyPlace))
    (rest : Collection)
    (start count : ℕ) → Layering chunks light from to parts heavy_places rest start → IsCollection (take count rest)
own_rises chunks light from to parts heavy_places rest start count was =
    let n : ℕ = start * 2147483648 in
    from_lower 0 n (take count rest) (omega arith)
    (front_rises n (take count rest) (drop count rest) (subst (λ hs. IsCollectionFrom n hs) (sym (take-append-drop count rest)) was.rises))

both_counts : (count : ℕ) (rest : Collection) → length rest ≡ length (take count rest) + length (drop count rest)
both_counts count rest =
    ap (λ (hs : Collection). length hs) (sym (take-append-drop count rest)) ∙ length-append (take count rest) (drop count rest)

pub own_few : (count : ℕ) (rest : Collection) → length rest ≤ 1000000 → length (take count rest) ≤ 1000000
own_few count rest within_limit = let both = both_counts count rest in omega arith

pub layering_next : (chunks : List Collection) (light : Collection) (from to : ℕ) (parts ts : List SpanRanges)
    (heavy_places : List (Option HeavyPlace)) (rest : Collection)
    (start end until count : ℕ) (over : Option HeavyPlace) → Layering chunks light from to parts heavy_places rest start
    → IsOver chunks start until over
    → end ≤ until → end ≤ to → end % 2 ≡ 1 → AreNeighbours start ts end → held_in ts ≡ take count rest
    → IsCollectionFrom (end * 2147483648) (drop count rest)
    → Layering chunks light from to (parts ++ ts) (heavy_places ++ replicate (length ts) over) (drop count rest) end
layering_next chunks light from to parts ts heavy_places rest start end until count over was is le by odd are made later =
    let split = take-append-drop count rest in
    let both = both_counts count rest in
    let within_limit = was.within_limit in
    record {
      neighbours = neighbours_append from parts start ts end was.neighbours are;
      are_heavy_places = heavy_places_append chunks parts ts heavy_places (replicate (length ts) over) was.are_heavy_places
          (all_over chunks start until start ts end over is are (omega arith) le);
      whole = ap (λ (hs : Collection). hs ++ drop count rest) (held_append parts ts)
          ∙ append_assoc (held_in parts) (held_in ts) (drop count rest)
          ∙ ap (λ (hs : Collection). held_in parts ++ (hs ++ drop count rest)) made
          ∙ ap (λ (hs : Collection). held_in parts ++ hs) split
          ∙ was.whole;
      odd = odd;
      by = by;
      rises = later;
      within_limit = omega arith;
      ends = ends_back to (take count rest) (drop count rest) (subst (λ hs. EndsBy hs to) (sym split) was.ends);
    }

-- no cell has its number where it ends, or after
none_left : (leaf : ℕ) (hs : Collection) → IsCollectionFrom (leaf * 2147483648) hs → EndsBy hs leaf → hs ≡ []
none_left leaf [] rises ends = refl
none_left leaf (h ∷ hs) rises ends =
    let to = (span (raw_of h.pair.cell) h.pair.cell.valid).to in
    let by = ends h (at_head h hs) in
    let ge = rises.0 in
    absurd (too_far (raw_of h.pair.cell) (value_of h.pair.label) leaf h.pair.label.in_range (omega arith) ge)
  where
    too_far : (raw label b : ℕ) → label ≤ 2147483647 → raw < b → b * 2147483648 ≤ raw * 2147483648 + label → ⊥
    too_far raw label b fits lt le = omega arith

pub layering_end : (chunks : List Collection) (light : Collection) (from to : ℕ) (parts : List SpanRanges)
    (heavy_places : List (Option HeavyPlace)) (rest : Collection)
    (start : ℕ) → Layering chunks light from to parts heavy_places rest start → to ≤ start → AreLightParts chunks light from parts heavy_places to
layering_end chunks light from to parts heavy_places rest start was le =
    let by = was.by in
    let at : start ≡ to = omega arith in
    let none = none_left to rest (subst (λ n. IsCollectionFrom (n * 2147483648) rest) at was.rises) was.ends in
    record {
      neighbours = subst (λ n. AreNeighbours from parts n) at was.neighbours;
      pairs = sym (ap (λ (hs : Collection). held_in parts ++ hs) none ∙ append-nil (held_in parts)) ∙ was.whole;
      are_heavy_places = was.are_heavy_places;
    }

-- the same of equal things
pub layering_same : (chunks : List Collection) (light : Collection) (from to : ℕ) (parts ts : List SpanRanges)
    (heavy_places xs : List (Option HeavyPlace))
    (rest hs : Collection) (start : ℕ) → Layering chunks light from to parts heavy_places rest start → ts ≡ parts → xs ≡ heavy_places → hs ≡ rest
    → Layering chunks light from to ts xs hs start
layering_same chunks light from to parts ts heavy_places xs rest hs start was e f g =
    subst (λ (ys : Collection). Layering chunks light from to ts xs ys start) (sym g)
    (subst (λ (ys : List (Option HeavyPlace)). Layering chunks light from to ts ys rest start) (sym f)
    (subst (λ (ys : List SpanRanges). Layering chunks light from to ys heavy_places rest start) (sym e) was))

-- ---- both layers

-- the parts of light pairs on a face and the chunks over them are its two layers
pub two_layers : (face : ℕ) (held light : Collection) (chunks heavy : List Collection) (parts : List SpanRanges)
    (heavy_places : List (Option HeavyPlace))
    → AreLightParts chunks light (face_begin face) parts heavy_places (face_begin (face + 1)) → heavy ≡ chunks → AreChunks chunks
    → ShareNoCell light (all_of chunks) → ((h : Held) → Contains (all_of chunks) h → Contains held h) → AreOnFace face held
    → IsFaceLayered face heavy parts heavy_places
two_layers face held light chunks heavy parts heavy_places are same in_chunks apart of_held on_face =
    subst (λ (cs : List Collection). IsFaceLayered face cs parts heavy_places) (sym same)
    (record {
      neighbours = are.neighbours;
      are_chunks = in_chunks;
      on_face = λ h is. on_face h (of_held h is);
      apart = subst (λ (hs : Collection). ShareNoCell hs (all_of chunks)) (sym are.pairs) apart;
      are_heavy_places = are.are_heavy_places;
    })
