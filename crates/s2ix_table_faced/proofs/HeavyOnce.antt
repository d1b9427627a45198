-- A heavy pair has one place among those of all faces, and so two parts lie under the same heavy pairs exactly if one place leads to them.
use Rattle.std.proofs.Common.{◌≡◌, ◌↔◌, ℕ, ◌<◌, inl, inr, Option, Some, None, List, [], ◌∷◌, length, drop, get_or, option_map, refl, sym, ◌∙◌, ap, arith, Contains, subst}
use Rattle.std.proofs.lemmas.Bool.{cases_lt}
use Rattle.std.proofs.lemmas.List.{get_or_past}
use Rattle.s2ix_bag_lists.specs.Faces.{all_of}
use Rattle.s2ix_bag_pairs.specs.Collection.{Collection}
use Rattle.s2ix_bag_pairs.specs.declared.pair.Held.{Held}
use Rattle.s2ix_table_walk.specs.Contents.{contents_at, depth_key}
use Rattle.s2ix_table_walk.specs.Places.{IsPlace, LeadsTo}
use Rattle.s2ix_table_walk.specs.Table.{leaf_end}
use Rattle.s2ix_table_walk.proofs.InOrder.{in_choice}
use Rattle.s2ix_table_walk.proofs.Leads.{leads_some, leads_none}
use Rattle.s2ix_table_spans.specs.Once.{KeepsOnce}
use Rattle.s2ix_table_spans.specs.SpanTable.{SpanRanges}
use Rattle.s2ix_table_heavy.specs.HeavyChains.{is_beyond, heavy_chain}
use Rattle.s2ix_table_heavy.specs.declared.heavy_place.HeavyPlace.{HeavyPlace}
use Rattle.s2ix_table_faced.specs.declared.part_place.FaceHeavyPlace.{FaceHeavyPlace}
use Rattle.s2ix_table_faced.specs.declared.part_place.FacedPlace.TheVariants.{Heavy}
use Rattle.s2ix_table_parts.specs.FaceSpans.{AreOnFace, table_of}
use Rattle.s2ix_table_parts.specs.Neighbours.{AreNeighbours}
use Rattle.s2ix_table_parts.proofs.NoHeavy.{no_chain}
use Rattle.s2ix_table_faced.specs.Layout.{AreLayered, chunks_on, face_with, heavy_in}
use Rattle.s2ix_table_faced.specs.PartPlaces.{face_chain, faced_chain, place_of_face}
use Rattle.s2ix_table_faced.proofs.HeavyFaces.{over_leads}
use Rattle.s2ix_table_faced.proofs.HeldAt.{has_some, has_own, same_first, same_answers}

-- ---- chains of heavy pairs

pub on_heavy_chain : (chunks : List Collection) (place : HeavyPlace) (h : Held) → Contains (heavy_chain chunks place) h → Contains (all_of chunks) h
unfolding heavy_chain
on_heavy_chain chunks place h c = (in_choice (is_beyond chunks place) depth_key (all_of chunks) h c).0

-- a place with a chain is on a face
pub on_some_face : (heavy : List (List Collection)) (p : FaceHeavyPlace) → length heavy ≡ 6 → IsPlace (face_chain heavy) p → p.face < 6
on_some_face heavy p six some =
    elim (cases_lt p.face 6) [
      | inl lt ↦ lt
      | inr past ↦
          (let none : chunks_on heavy p.face ≡ [] = get_or_past heavy p.face [] (omega arith) in
          let len = ap length (ap (λ (chunks : List Collection). heavy_chain chunks p.place) none ∙ no_chain p.place) in
          absurd (omega arith))
    ]

-- ---- one place

same_heavy : (p q : FaceHeavyPlace) → p.face ≡ q.face → p.place ≡ q.place → p ≡ q
same_heavy p q face place = λ i. record { face = face i; place = place i }

-- if on each face a heavy pair has one place, it has one among those of all faces
pub heavy_once : (heavy : List (List Collection)) → length heavy ≡ 6
    → ((face : ℕ) → face < 6 → AreOnFace face (all_of (chunks_on heavy face)))
    → ((face : ℕ) → face < 6 → KeepsOnce (heavy_chain (chunks_on heavy face))) → KeepsOnce (face_chain heavy)
heavy_once heavy six on once = record {
  place = λ start h c.
      let face = on_some_face heavy start six (has_some (face_chain heavy start) h c) in
      let own = (once start.face face).place start.place h c in
      (place_of_face start.face own.0, record { pair = own.1.pair; rest = own.1.rest });
  same = λ start other p q h one two.
      let in_p = has_own (face_chain heavy) start p h one in
      let in_q = has_own (face_chain heavy) other q h two in
      let face_p = on_some_face heavy p six (has_some (face_chain heavy p) h in_p) in
      let face_q = on_some_face heavy q six (has_some (face_chain heavy q) h in_q) in
      let face : p.face ≡ q.face =
      sym (on p.face face_p h (on_heavy_chain (chunks_on heavy p.face) p.place h in_p))
      ∙ on q.face face_q h (on_heavy_chain (chunks_on heavy q.face) q.place h in_q) in
      same_heavy p q face
      (same_first (heavy_chain (chunks_on heavy p.face)) p.place q.place h (once p.face face_p) one.pair
      (subst (λ f. heavy_chain (chunks_on heavy f) q.place ≡ h ∷ drop 1 (heavy_chain (chunks_on heavy f) q.place)) (sym face) two.pair));
}

-- ---- the places over parts

-- an answer among the heavy pairs of a face, among those of all
pub leads_on_face : (heavy : List (List Collection)) (face : ℕ) (over : Option HeavyPlace) (pairs : Collection)
    → LeadsTo (heavy_chain (chunks_on heavy face)) over pairs → LeadsTo (face_chain heavy) (option_map (place_of_face face) over) pairs
leads_on_face heavy face None pairs leads = leads_none (face_chain heavy) pairs (sym leads.pairs_are)
leads_on_face heavy face (Some place) pairs leads =
    let some = leads.place place refl in
    let len = ap length leads.pairs_are in
    leads_some (face_chain heavy) (place_of_face face place) pairs leads.pairs_are (omega arith)

-- and among all pairs
pub leads_heavy : (parts : List SpanRanges) (heavy : List (List Collection)) (over : Option FaceHeavyPlace) (pairs : Collection)
    → LeadsTo (face_chain heavy) over pairs → LeadsTo (faced_chain parts heavy) (option_map (λ (p : FaceHeavyPlace). Heavy p) over) pairs
leads_heavy parts heavy None pairs leads = leads_none (faced_chain parts heavy) pairs (sym leads.pairs_are)
leads_heavy parts heavy (Some place) pairs leads =
    let some = leads.place place refl in
    let len = ap length leads.pairs_are in
    leads_some (faced_chain parts heavy) (Heavy place) pairs leads.pairs_are (omega arith)

-- the way outwards from a heavy pair, among all pairs
pub leads_out : (parts : List SpanRanges) (heavy : List (List Collection)) (place : FaceHeavyPlace) (next : Option HeavyPlace)
    → LeadsTo (heavy_chain (chunks_on heavy place.face)) next (drop 1 (heavy_chain (chunks_on heavy place.face) place.place))
    → LeadsTo (faced_chain parts heavy) (option_map (λ (p : FaceHeavyPlace). Heavy p) (option_map (place_of_face place.face) next))
    (drop 1 (face_chain heavy place))
leads_out parts heavy place next leads =
    let rest = drop 1 (face_chain heavy place) in
    leads_heavy parts heavy (option_map (place_of_face place.face) next) rest (leads_on_face heavy place.face next rest leads)

-- the place over a part, with its face
pub over_of : List SpanRanges → List (Option HeavyPlace) → ℕ → Option FaceHeavyPlace
over_of parts heavy_places i = option_map (place_of_face (face_with (table_of parts i).from)) (get_or heavy_places i None)

pub over_is : (parts : List SpanRanges) (heavy_places : List (Option HeavyPlace)) (i : ℕ) (over : Option HeavyPlace) → get_or heavy_places i None ≡ over
    → over_of parts heavy_places i ≡ option_map (place_of_face (face_with (table_of parts i).from)) over
unfolding over_of
over_is parts heavy_places i over is = ap (option_map (place_of_face (face_with (table_of parts i).from))) is

pub over_of_leads : (parts : List SpanRanges) (heavy : List (List Collection)) (heavy_places : List (Option HeavyPlace)) (i : ℕ)
    → AreNeighbours 1 parts leaf_end → AreLayered heavy parts heavy_places → i < length parts
    → LeadsTo (face_chain heavy) (over_of parts heavy_places i) (contents_at (table_of parts i).from (heavy_in heavy))
unfolding over_of
over_of_leads parts heavy heavy_places i are layered lt =
    leads_on_face heavy (face_with (table_of parts i).from) (get_or heavy_places i None) (contents_at (table_of parts i).from (heavy_in heavy))
    (over_leads parts heavy heavy_places i are layered lt)

-- a place over a part that was read, and the part's begin
pub over_read : (parts : List SpanRanges) (heavy : List (List Collection)) (heavy_places : List (Option HeavyPlace)) (i start : ℕ) (over : Option HeavyPlace)
    → AreNeighbours 1 parts leaf_end → AreLayered heavy parts heavy_places → i < length parts → start ≡ (table_of parts i).from
    → get_or heavy_places i None ≡ over
    → LeadsTo (faced_chain parts heavy) (option_map (λ (p : FaceHeavyPlace). Heavy p) (option_map (place_of_face (face_with start)) over))
    (contents_at (table_of parts i).from (heavy_in heavy))
over_read parts heavy heavy_places i start over are layered lt begins is =
    let pairs = contents_at (table_of parts i).from (heavy_in heavy) in
    let face = face_with (table_of parts i).from in
    let leads = subst (λ (o : Option HeavyPlace). LeadsTo (heavy_chain (chunks_on heavy face)) o pairs) is (over_leads parts heavy heavy_places i are layered lt) in
    leads_heavy parts heavy (option_map (place_of_face (face_with start)) over) pairs
    (subst (λ n. LeadsTo (face_chain heavy) (option_map (place_of_face (face_with n)) over) pairs) (sym begins)
    (leads_on_face heavy face over pairs leads))

-- two parts lie under the same heavy pairs exactly if the places over them, with their faces, are one
pub same_heavy_places : (parts : List SpanRanges) (heavy : List (List Collection)) (heavy_places : List (Option HeavyPlace)) (i j : ℕ)
    → AreNeighbours 1 parts leaf_end → AreLayered heavy parts heavy_places → KeepsOnce (face_chain heavy) → i < length parts → j < length parts
    → (over_of parts heavy_places i ≡ over_of parts heavy_places j)
    ↔ (contents_at (table_of parts i).from (heavy_in heavy) ≡ contents_at (table_of parts j).from (heavy_in heavy))
same_heavy_places parts heavy heavy_places i j are layered once lt_i lt_j =
    same_answers (face_chain heavy) (over_of parts heavy_places i) (over_of parts heavy_places j) (contents_at (table_of parts i).from (heavy_in heavy))
    (contents_at (table_of parts j).from (heavy_in heavy)) once (over_of_leads parts heavy heavy_places i are layered lt_i)
    (over_of_leads parts heavy heavy_places j are layered lt_j)

-- the same of the place with its face
pub over_there : (parts : List SpanRanges) (heavy : List (List Collection)) (heavy_places : List (Option HeavyPlace)) (i start : ℕ) (over : Option HeavyPlace)
    (there : Option FaceHeavyPlace) → AreNeighbours 1 parts leaf_end → AreLayered heavy parts heavy_places → i < length parts → start ≡ (table_of parts i).from
    → get_or heavy_places i None ≡ over → option_map (place_of_face (face_with start)) over ≡ there
    → LeadsTo (faced_chain parts heavy) (option_map (λ (p : FaceHeavyPlace). Heavy p) there) (contents_at (table_of parts i).from (heavy_in heavy))
over_there parts heavy heavy_places i start over there are layered lt begins is same =
    subst (λ (p : Option FaceHeavyPlace). LeadsTo (faced_chain parts heavy) (option_map (λ (q : FaceHeavyPlace). Heavy q) p)
    (contents_at (table_of parts i).from (heavy_in heavy))) same (over_read parts heavy heavy_places i start over are layered lt begins is)
