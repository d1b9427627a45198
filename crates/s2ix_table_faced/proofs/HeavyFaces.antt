-- Heavy pairs, face by face.
use Rattle.std.proofs.Common.{◌≡◌, ℕ, zero, suc, ◌+◌, ◌*◌, ◌%◌, ◌<◌, ◌≤◌, inl, inr, Option, None, List, [], ◌∷◌, length, get_or, refl, sym, ◌∙◌, ap, arith, subst}
use Rattle.std.proofs.lemmas.List.Elements.{Contains-append_cases}
use Rattle.s2id_core.specs.Span.{face_numbers}
use Rattle.s2id_core.proofs.Lists.{none_in_nil}
use Rattle.s2ix_bag_lists.specs.Faces.{all_of}
use Rattle.s2ix_bag_pairs.specs.Collection.{Collection, IsCollection}
use Rattle.s2ix_table_walk.specs.Contents.{contents_at}
use Rattle.s2ix_table_walk.specs.Places.{LeadsTo}
use Rattle.s2ix_table_walk.specs.Table.{leaf_end}
use Rattle.s2ix_table_walk.proofs.OnFaces.{face_bounds}
use Rattle.s2ix_table_spans.specs.SpanTable.{SpanRanges}
use Rattle.s2ix_table_heavy.specs.Chunks.{AreChunks}
use Rattle.s2ix_table_heavy.specs.HeavyChains.{heavy_chain}
use Rattle.s2ix_table_heavy.specs.declared.heavy_place.HeavyPlace.{HeavyPlace}
use Rattle.s2ix_table_parts.specs.FaceSpans.{AreOnFace, face_begin, no_table, table_of}
use Rattle.s2ix_table_parts.specs.Neighbours.{AreNeighbours}
use Rattle.s2ix_table_parts.specs.Layers.{AreUnder}
use Rattle.s2ix_table_parts.specs.Parts.{BeginsFrom}
use Rattle.s2ix_table_faced.specs.Layout.{AreAllUnder, AreLayered, AreLed, IsLed, chunks_on, face_with, heavy_in}
use Rattle.s2ix_table_parts.proofs.Appended.{both_rise, contents_front, contents_back}
use Rattle.s2ix_table_parts.proofs.Cuts.{cut_end, cut_rises, cut_to, neighbours_rise}
use Rattle.s2ix_table_parts.proofs.InSpans.{face_in_span}
use Rattle.s2ix_table_parts.proofs.Neighbours.{span_known}

-- ---- faces from one on

-- the chunks of faces from one on, each on its face
abbrev AreFrom : ℕ → List (List Collection) → Type 0
AreFrom n [] = Unit {0}
AreFrom n (chunks ∷ rest) = AreOnFace n (all_of chunks) × AreFrom (n + 1) rest

each_from : (n : ℕ) (heavy : List (List Collection)) → ((k : ℕ) → k < length heavy → AreOnFace (n + k) (all_of (chunks_on heavy k)))
    → AreFrom n heavy
each_from n [] each = tt
each_from n (chunks ∷ rest) each =
    let here : n + 0 ≡ n = omega arith in (
      subst (λ f. AreOnFace f (all_of chunks)) here (each 0 (omega arith)),
      each_from (n + 1) rest (λ k lt.
          let next : n + suc k ≡ n + 1 + k = omega arith in
          subst (λ f. AreOnFace f (all_of (chunks_on rest k))) next (each (suc k) (omega arith))),
    )

from_first : (heavy : List (List Collection)) → length heavy ≡ 6 → ((face : ℕ) → face < 6 → AreOnFace face (all_of (chunks_on heavy face)))
    → AreFrom 0 heavy
from_first heavy six on =
    each_from 0 heavy (λ k lt.
    let same : k ≡ 0 + k = omega arith in
    subst (λ f. AreOnFace f (all_of (chunks_on heavy k))) same (on k (omega arith)))

-- none begins before the first of these faces
begin_from : (n : ℕ) (heavy : List (List Collection)) → AreFrom n heavy → BeginsFrom (heavy_in heavy) (face_begin n)
begin_from n [] are h held = absurd (none_in_nil h held)
begin_from n (chunks ∷ rest) are h held =
    elim (Contains-append_cases (all_of chunks) (heavy_in rest) h held) [
      | inl own ↦ (face_in_span n (all_of chunks) are.0).begins h own
      | inr later ↦ (let le = begin_from (n + 1) rest are.1 h later in omega arith)
    ]

contents_from : (n k q : ℕ) (heavy : List (List Collection)) → AreFrom n heavy → k < length heavy → face_begin (n + k) ≤ q
    → q < face_begin (n + k + 1) → contents_at q (heavy_in heavy) ≡ contents_at q (all_of (chunks_on heavy k))
contents_from n k q [] are lt ge less = absurd (omega arith)
contents_from n zero q (chunks ∷ rest) are lt ge less =
    contents_front q (face_begin (n + 1)) (all_of chunks) (heavy_in rest) (omega arith) (begin_from (n + 1) rest are.1)
contents_from n (suc k) q (chunks ∷ rest) are lt ge less =
    contents_back q (face_begin (n + 1)) (all_of chunks) (heavy_in rest) (omega arith) (face_in_span n (all_of chunks) are.0).ends
    ∙ contents_from (n + 1) k q rest are.1 (omega arith) (omega arith) (omega arith)

rises_from : (n : ℕ) (heavy : List (List Collection)) → AreFrom n heavy
    → ((k : ℕ) → k < length heavy → IsCollection (all_of (chunks_on heavy k))) → IsCollection (heavy_in heavy)
rises_from n [] are each = tt
rises_from n (chunks ∷ rest) are each =
    both_rise (face_begin (n + 1)) (all_of chunks) (heavy_in rest) (face_in_span n (all_of chunks) are.0).ends
    (begin_from (n + 1) rest are.1) (each 0 (omega arith)) (rises_from (n + 1) rest are.1 (λ k lt. each (suc k) (omega arith)))

-- ---- the six faces

-- over a leaf of a face all heavy pairs have what those of the face have
pub contents_on_face : (heavy : List (List Collection)) (face q : ℕ) → length heavy ≡ 6
    → ((face : ℕ) → face < 6 → AreOnFace face (all_of (chunks_on heavy face))) → face < 6 → face_begin face ≤ q → q < face_begin (face + 1)
    → contents_at q (heavy_in heavy) ≡ contents_at q (all_of (chunks_on heavy face))
contents_on_face heavy face q six on lt ge less =
    contents_from 0 face q heavy (from_first heavy six on) (omega arith) (omega arith) (omega arith)

-- the heavy pairs of all faces rise
pub heavy_rises : (heavy : List (List Collection)) → length heavy ≡ 6
    → ((face : ℕ) → face < 6 → AreOnFace face (all_of (chunks_on heavy face))) → ((face : ℕ) → face < 6 → AreChunks (chunks_on heavy face))
    → IsCollection (heavy_in heavy)
heavy_rises heavy six on are = rises_from 0 heavy (from_first heavy six on) (λ k lt. (are k (omega arith)).rises)

-- ---- leaves on their faces

-- a leaf lies on the face that its number tells
pub record LiesOnItsFace (leaf : ℕ) : Type 0 where
  pub six : face_with leaf < 6
  pub begins : face_begin (face_with leaf) ≤ leaf
  pub ends : leaf < face_begin (face_with leaf + 1)

within_faces : (leaf face : ℕ) → leaf % 2 ≡ 1 → leaf < leaf_end → face * face_numbers ≤ leaf → leaf < (face + 1) * face_numbers
    → (face < 6) × (face_begin face ≤ leaf) × (leaf < face_begin (face + 1))
within_faces leaf face odd lt low high = (omega arith, omega arith, omega arith)

pub lies_on_its_face : (leaf : ℕ) → leaf % 2 ≡ 1 → leaf < leaf_end → LiesOnItsFace leaf
lies_on_its_face leaf odd lt =
    let bounds = face_bounds leaf (face_with leaf) refl in
    let is = within_faces leaf (face_with leaf) odd lt bounds.0 bounds.1 in
    record { six = is.0; begins = is.1; ends = is.2 }

-- over a leaf all heavy pairs have what those of its face have
pub contents_there : (heavy : List (List Collection)) (q : ℕ) → length heavy ≡ 6
    → ((face : ℕ) → face < 6 → AreOnFace face (all_of (chunks_on heavy face))) → q % 2 ≡ 1 → q < leaf_end
    → contents_at q (heavy_in heavy) ≡ contents_at q (all_of (chunks_on heavy (face_with q)))
contents_there heavy q six on odd lt =
    let is = lies_on_its_face q odd lt in
    contents_on_face heavy (face_with q) q six on is.six is.begins is.ends

-- ---- parts under heavy pairs

under_all : (heavy : List (List Collection)) (from to : ℕ) (over : Option HeavyPlace) → length heavy ≡ 6
    → ((face : ℕ) → face < 6 → AreOnFace face (all_of (chunks_on heavy face))) → from % 2 ≡ 1 → from < to → to ≤ leaf_end
    → IsLed heavy from to over → AreUnder (heavy_in heavy) from to (contents_at from (heavy_in heavy))
under_all heavy from to over six on odd_from some last led = record {
  same = λ q odd ge lt.
      let is = lies_on_its_face from odd_from (omega arith) in
      let begins = is.begins in
      let end = led.on_face in
      contents_on_face heavy (face_with from) q six on is.six (omega arith) (omega arith)
      ∙ led.under.same.same q odd ge lt
      ∙ sym (contents_there heavy from six on odd_from (omega arith));
}

all_under_from : (heavy : List (List Collection)) (from : ℕ) (parts : List SpanRanges) (heavy_places : List (Option HeavyPlace)) (to : ℕ)
    → length heavy ≡ 6 → ((face : ℕ) → face < 6 → AreOnFace face (all_of (chunks_on heavy face))) → AreNeighbours from parts to
    → to ≤ leaf_end → AreLed heavy parts heavy_places → AreAllUnder (heavy_in heavy) parts
all_under_from heavy from [] heavy_places to six on are last led = tt
all_under_from heavy from (t ∷ ts) [] to six on are last led = absurd led
all_under_from heavy from (t ∷ ts) (over ∷ heavy_places) to six on are last led =
    let within = are.1.within in
    let by = neighbours_rise t.to ts to are.2 in (
      under_all heavy t.from t.to over six on within.odd within.some (omega arith) led.0,
      all_under_from heavy t.to ts heavy_places to six on are.2 last led.1,
    )

-- each part lies under the same heavy pairs at each of its leaves
pub all_under : (parts : List SpanRanges) (heavy : List (List Collection)) (heavy_places : List (Option HeavyPlace))
    → AreNeighbours 1 parts leaf_end → AreLayered heavy parts heavy_places → AreAllUnder (heavy_in heavy) parts
all_under parts heavy heavy_places are layered =
    all_under_from heavy 1 parts heavy_places leaf_end layered.six layered.on_faces are (omega arith) layered.led

-- ---- the place over a part

pub many_led : (heavy : List (List Collection)) (parts : List SpanRanges) (heavy_places : List (Option HeavyPlace)) → AreLed heavy parts heavy_places
    → length heavy_places ≡ length parts
many_led heavy [] heavy_places led = led
many_led heavy (t ∷ ts) [] led = absurd led
many_led heavy (t ∷ ts) (over ∷ heavy_places) led = ap suc (many_led heavy ts heavy_places led.1)

pub led_at : (heavy : List (List Collection)) (i : ℕ) (parts : List SpanRanges) (heavy_places : List (Option HeavyPlace)) → AreLed heavy parts heavy_places
    → i < length parts → IsLed heavy (table_of parts i).from (table_of parts i).to (get_or heavy_places i None)
led_at heavy i [] heavy_places led lt = absurd (omega arith)
led_at heavy i (t ∷ ts) [] led lt = absurd led
led_at heavy zero (t ∷ ts) (over ∷ heavy_places) led lt = led.0
led_at heavy (suc i) (t ∷ ts) (over ∷ heavy_places) led lt = led_at heavy i ts heavy_places led.1 (omega arith)

-- a part begins at a leaf
pub part_begins : (parts : List SpanRanges) (i : ℕ) → AreNeighbours 1 parts leaf_end → i < length parts
    → ((table_of parts i).from % 2 ≡ 1) × ((table_of parts i).from < leaf_end)
part_begins parts i are lt =
    let within = (span_known 1 parts leaf_end i no_table are lt).within in
    let some = within.some in
    let to = cut_to i 1 parts leaf_end no_table are lt in
    let rises = cut_rises (suc i) (length parts) 1 parts leaf_end are (omega arith) (omega arith) in
    let end = cut_end (length parts) 1 parts leaf_end are refl in
    (within.odd, omega arith)

-- the place of a part leads to the heavy pairs over it
pub over_leads : (parts : List SpanRanges) (heavy : List (List Collection)) (heavy_places : List (Option HeavyPlace)) (i : ℕ)
    → AreNeighbours 1 parts leaf_end → AreLayered heavy parts heavy_places → i < length parts
    → LeadsTo (heavy_chain (chunks_on heavy (face_with (table_of parts i).from))) (get_or heavy_places i None)
    (contents_at (table_of parts i).from (heavy_in heavy))
over_leads parts heavy heavy_places i are layered lt =
    let begins = part_begins parts i are lt in
    let from = (table_of parts i).from in
    let led = led_at heavy i parts heavy_places layered.led lt in
    subst (LeadsTo (heavy_chain (chunks_on heavy (face_with from))) (get_or heavy_places i None))
    (sym (contents_there heavy from layered.six layered.on_faces begins.0 begins.1)) led.under.leads
