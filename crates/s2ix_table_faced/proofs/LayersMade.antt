-- A table in layers, made face by face.
use Rattle.std.proofs.Common.{◌≡◌, ℕ, ◌+◌, ◌%◌, ◌<◌, ◌≤◌, inl, inr, Option, List, [], ◌∷◌, ◌++◌, length, refl, sym, ◌∙◌, ap, ap₂, arith, Contains, subst}
use Rattle.std.proofs.lemmas.Bool.{cases_eq}
use Rattle.std.proofs.lemmas.List.{append-nil}
use Rattle.s2ix_bag_lists.specs.Faces.{all_of}
use Rattle.s2ix_bag_pairs.specs.Collection.{Collection, IsCollection}
use Rattle.s2ix_table_spans.specs.SpanTable.{SpanRanges}
use Rattle.s2ix_table_walk.specs.Table.{leaf_end}
use Rattle.s2ix_table_heavy.specs.Chunks.{AreChunks}
use Rattle.s2ix_table_heavy.specs.declared.heavy_place.HeavyPlace.{HeavyPlace}
use Rattle.s2ix_table_kept.specs.Faces.{held_on}
use Rattle.s2ix_table_parts.specs.FaceSpans.{AreOnFace, face_begin, starts_of}
use Rattle.s2ix_table_faced.specs.FirstParts.{BeginFaces}
use Rattle.s2ix_table_parts.specs.Neighbours.{AreNeighbours, held_in}
use Rattle.s2ix_table_faced.specs.Layout.{AreLed, IsLayout, chunks_on, face_with, heavy_in}
use Rattle.s2ix_table_parts.specs.Layered.{AreHeavyPlaces, IsFaceLayered, IsUnder}
use Rattle.s2ix_table_parts.specs.Layers.{ShareNoCell, joined_layers}
use Rattle.s2ix_table_parts.proofs.Cuts.{all_end, neighbours_rise}
use Rattle.s2ix_table_parts.proofs.Cutting.{held_append, neighbours_append}
use Rattle.s2ix_table_parts.proofs.Parting.{begins_earlier}
use Rattle.s2ix_table_faced.proofs.FaceByFace.{apart_by_faces, heavy_there, same_by_faces, on_face_joined_layers}
use Rattle.s2ix_table_faced.proofs.HeavyFaces.{heavy_rises}
use Rattle.s2ix_table_parts.proofs.Layers.{joined_layers_rise}
use Rattle.s2ix_table_faced.proofs.Making.{begins_all, begins_next}
use Rattle.s2ix_table_parts.proofs.Neighbours.{all_begin, all_rise}
use Rattle.s2ix_table_faced.proofs.OnFaces.{all_kept, both_kept, none_after, none_before}

-- light pairs and the chunks of a face are together what is held there
pub record IsFaceHeld (hs : Collection) (face : ℕ) (light : Collection) (chunks : List Collection) : Type 0 where
  pub are_chunks : AreChunks chunks
  pub on_face : AreOnFace face (all_of chunks)
  pub apart : ShareNoCell light (all_of chunks)
  pub pairs : joined_layers light (all_of chunks) ≡ held_on face hs

-- neighbouring parts from the first leaf on up to where a face begins, one of which begins each face before, under heavy pairs; on each
-- face before they are together what is held there
pub record AreLayersMade (hs : Collection) (heavy : List (List Collection)) (parts : List SpanRanges) (heavy_places : List (Option HeavyPlace)) (face : ℕ) : Type 0 where
  pub neighbours : AreNeighbours 1 parts (face_begin face)
  pub begins : (f : ℕ) → f < face → Contains (starts_of parts) (face_begin f)
  pub led : AreLed heavy parts heavy_places
  pub held : (f : ℕ) → f < face → IsFaceHeld hs f (held_on f (held_in parts)) (chunks_on heavy f)

pub no_layers : (hs : Collection) (heavy : List (List Collection)) (parts : List SpanRanges) (heavy_places : List (Option HeavyPlace))
    → parts ≡ [] → heavy_places ≡ [] → AreLayersMade hs heavy parts heavy_places 0
no_layers hs heavy parts heavy_places none no_heavy_places =
    subst (λ os. AreLayersMade hs heavy parts os 0) (sym no_heavy_places)
    (subst (λ ts. AreLayersMade hs heavy ts [] 0) (sym none) (record {
      neighbours = refl;
      begins = λ f lt. absurd (omega arith);
      led = refl;
      held = λ f lt. absurd (omega arith);
    }))

-- ---- what leads to heavy pairs, of one face and of all

-- a part of a face begins at a leaf of it
begins_there : (face from to : ℕ) → face_begin face ≤ from → from < to → to ≤ face_begin (face + 1) → from % 2 ≡ 1 → face_with from ≡ face
begins_there face from to ge lt le odd = omega arith

pub led_on_face : (heavy : List (List Collection)) (face from : ℕ) (ts : List SpanRanges) (xs : List (Option HeavyPlace)) → face_begin face ≤ from
    → AreNeighbours from ts (face_begin (face + 1)) → AreHeavyPlaces (chunks_on heavy face) ts xs → AreLed heavy ts xs
led_on_face heavy face from [] xs ge are heavy_places = ap length heavy_places
led_on_face heavy face from (t ∷ ts) [] ge are heavy_places = absurd heavy_places
led_on_face heavy face from (t ∷ ts) (x ∷ xs) ge are heavy_places =
    let begin = are.0 in
    let within = are.1.within in
    let some = within.some in
    let odd = within.odd in
    let end = neighbours_rise t.to ts (face_begin (face + 1)) are.2 in
    let on = begins_there face t.from t.to (omega arith) some end odd in
    let last = ap (λ f. face_begin (f + 1)) on in (
      record {
        on_face = omega arith;
        under = subst (λ f. IsUnder (chunks_on heavy f) t.from t.to x) (sym on) heavy_places.0;
      },
      led_on_face heavy face t.to ts xs (omega arith) are.2 heavy_places.1,
    )

pub heavy_places_on_face : (heavy : List (List Collection)) (face from : ℕ) (ts : List SpanRanges) (xs : List (Option HeavyPlace)) → face_begin face ≤ from
    → AreNeighbours from ts (face_begin (face + 1)) → AreLed heavy ts xs → AreHeavyPlaces (chunks_on heavy face) ts xs
heavy_places_on_face heavy face from [] [] ge are led = refl
heavy_places_on_face heavy face from [] (x ∷ xs) ge are led = absurd (omega (arith, led))
heavy_places_on_face heavy face from (t ∷ ts) [] ge are led = absurd led
heavy_places_on_face heavy face from (t ∷ ts) (x ∷ xs) ge are led =
    let begin = are.0 in
    let within = are.1.within in
    let some = within.some in
    let odd = within.odd in
    let end = neighbours_rise t.to ts (face_begin (face + 1)) are.2 in
    let on = begins_there face t.from t.to (omega arith) some end odd in (
      subst (λ f. IsUnder (chunks_on heavy f) t.from t.to x) on led.0.under,
      heavy_places_on_face heavy face t.to ts xs (omega arith) are.2 led.1,
    )

led_append : (heavy : List (List Collection)) (ts us : List SpanRanges) (xs ys : List (Option HeavyPlace)) → AreLed heavy ts xs → AreLed heavy us ys
    → AreLed heavy (ts ++ us) (xs ++ ys)
led_append heavy [] us [] ys a b = b
led_append heavy [] us (x ∷ xs) ys a b = absurd (omega (arith, a))
led_append heavy (t ∷ ts) us [] ys a b = absurd a
led_append heavy (t ∷ ts) us (x ∷ xs) ys a b = (a.0, led_append heavy ts us xs ys a.1 b)

begins_before : (face from : ℕ) → from < face_begin face → from % 2 ≡ 1 → face_with from < face
begins_before face from lt odd = omega arith

-- heavy pairs of later faces don't matter
led_keep : (heavy now : List (List Collection)) (face from : ℕ) (ts : List SpanRanges) (xs : List (Option HeavyPlace))
    → AreNeighbours from ts (face_begin face) → ((f : ℕ) → f < face → chunks_on now f ≡ chunks_on heavy f) → AreLed heavy ts xs → AreLed now ts xs
led_keep heavy now face from [] xs are same led = led
led_keep heavy now face from (t ∷ ts) [] are same led = absurd led
led_keep heavy now face from (t ∷ ts) (x ∷ xs) are same led =
    let within = are.1.within in
    let some = within.some in
    let end = neighbours_rise t.to ts (face_begin face) are.2 in
    let before = begins_before face t.from (omega arith) within.odd in (
      record {
        on_face = led.0.on_face;
        under = subst (λ chunks. IsUnder chunks t.from t.to x) (sym (same (face_with t.from) before)) led.0.under;
      },
      led_keep heavy now face t.to ts xs are.2 same led.1,
    )

pub layers_keep : (hs : Collection) (heavy now : List (List Collection)) (parts : List SpanRanges) (heavy_places : List (Option HeavyPlace)) (face : ℕ)
    → AreLayersMade hs heavy parts heavy_places face → ((f : ℕ) → f < face → chunks_on now f ≡ chunks_on heavy f)
    → AreLayersMade hs now parts heavy_places face
layers_keep hs heavy now parts heavy_places face was same = record {
  neighbours = was.neighbours;
  begins = was.begins;
  led = led_keep heavy now face 1 parts heavy_places was.neighbours same was.led;
  held = λ f lt. subst (λ chunks. IsFaceHeld hs f (held_on f (held_in parts)) chunks) (sym (same f lt)) (was.held f lt);
}

-- ---- one face more

light_before : (f face : ℕ) (parts more : List SpanRanges) → f < face → AreNeighbours (face_begin face) more (face_begin (face + 1))
    → held_on f (held_in (parts ++ more)) ≡ held_on f (held_in parts)
light_before f face parts more lt are =
    let begin = all_begin (face_begin face) more (face_begin (face + 1)) are in
    ap (held_on f) (held_append parts more) ∙ both_kept f (held_in parts) (held_in more)
    ∙ ap (λ xs. held_on f (held_in parts) ++ xs) (none_after f (held_in more) (begins_earlier (face_begin face) (face_begin (f + 1)) (held_in more) (omega arith) begin))
    ∙ append-nil (held_on f (held_in parts))

light_there : (face : ℕ) (parts more : List SpanRanges) → AreNeighbours 1 parts (face_begin face)
    → AreNeighbours (face_begin face) more (face_begin (face + 1)) → held_on face (held_in (parts ++ more)) ≡ held_in more
light_there face parts more before are =
    ap (held_on face) (held_append parts more) ∙ both_kept face (held_in parts) (held_in more)
    ∙ ap₂ (λ (one other : Collection). one ++ other) (none_before face (held_in parts) (all_end 1 parts (face_begin face) before))
    (all_kept face (held_in more) (all_begin (face_begin face) more (face_begin (face + 1)) are) (all_end (face_begin face) more (face_begin (face + 1)) are))

pub layers_more : (hs : Collection) (heavy : List (List Collection)) (parts more : List SpanRanges) (heavy_places more_heavy_places : List (Option HeavyPlace)) (face : ℕ)
    → AreLayersMade hs heavy parts heavy_places face → IsFaceLayered face (chunks_on heavy face) more more_heavy_places
    → joined_layers (held_in more) (all_of (chunks_on heavy face)) ≡ held_on face hs
    → AreLayersMade hs heavy (parts ++ more) (heavy_places ++ more_heavy_places) (face + 1)
layers_more hs heavy parts more heavy_places more_heavy_places face was own pairs = record {
  neighbours = neighbours_append 1 parts (face_begin face) more (face_begin (face + 1)) was.neighbours own.neighbours;
  begins = begins_all face parts more was.begins (begins_next face more own.neighbours);
  led = led_append heavy parts more heavy_places more_heavy_places was.led (led_on_face heavy face (face_begin face) more more_heavy_places (omega arith) own.neighbours own.are_heavy_places);
  held = λ f lt. elim (cases_eq f face) [
    | inl e ↦
        (let whole : IsFaceHeld hs face (held_in more) (chunks_on heavy face) = record {
          are_chunks = own.are_chunks;
          on_face = own.on_face;
          apart = own.apart;
          pairs = pairs;
        } in
        subst (λ n. IsFaceHeld hs n (held_on n (held_in (parts ++ more))) (chunks_on heavy n)) (sym e)
        (subst (λ ls. IsFaceHeld hs face ls (chunks_on heavy face)) (sym (light_there face parts more was.neighbours own.neighbours)) whole))
    | inr ne ↦
        (let less : f < face = omega (arith, lt, ne) in
        subst (λ ls. IsFaceHeld hs f ls (chunks_on heavy f)) (sym (light_before f face parts more less own.neighbours)) (was.held f less))
  ];
}

-- ---- all faces

pub record AreAllMade (hs : Collection) (heavy : List (List Collection)) (parts : List SpanRanges) (heavy_places : List (Option HeavyPlace)) : Type 0 where
  pub layout : IsLayout parts heavy heavy_places
  pub faces : BeginFaces parts
  pub pairs : joined_layers (held_in parts) (heavy_in heavy) ≡ hs

pub all_layers : (hs : Collection) (heavy : List (List Collection)) (parts : List SpanRanges) (heavy_places : List (Option HeavyPlace)) (face : ℕ)
    → AreLayersMade hs heavy parts heavy_places face → face ≡ 6 → length heavy ≡ 6 → IsCollection hs → length hs ≤ 1000000
    → AreAllMade hs heavy parts heavy_places
all_layers hs heavy parts heavy_places face made last six rises within_limit =
    let is = subst (AreLayersMade hs heavy parts heavy_places) last made in
    let light = held_in parts in
    let all_heavy = heavy_in heavy in
    let light_rises = all_rise 1 parts leaf_end is.neighbours in
    let on : (f : ℕ) → f < 6 → AreOnFace f (all_of (chunks_on heavy f)) = λ f lt. (is.held f lt).on_face in
    let chunks : (f : ℕ) → f < 6 → AreChunks (chunks_on heavy f) = λ f lt. (is.held f lt).are_chunks in
    let rises_too = heavy_rises heavy six on chunks in
    let pairs = same_by_faces (joined_layers light all_heavy) hs (joined_layers_rise light all_heavy light_rises) rises (λ f lt.
    on_face_joined_layers f light all_heavy light_rises rises_too
    ∙ ap (λ ks. joined_layers (held_on f light) ks) (heavy_there heavy f six on lt) ∙ (is.held f lt).pairs) in
    let apart = apart_by_faces light all_heavy (λ f lt.
    subst (λ ks. ShareNoCell (held_on f light) ks) (sym (heavy_there heavy f six on lt)) (is.held f lt).apart) in
    record {
      layout = record {
        neighbours = is.neighbours;
        layered = record { six = six; on_faces = on; led = is.led };
        chunks = chunks;
        apart = apart;
        within_limit = omega (arith, within_limit, ap length pairs);
      };
      faces = is.begins;
      pairs = pairs;
    }
