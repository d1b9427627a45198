-- A pair has one place in joined parts, and in these under heavy pairs.
use Rattle.std.proofs.Common.{◌≡◌, ℕ, zero, suc, ◌+◌, ◌<◌, ◌≤◌, inl, inr, Option, Some, None, List, [], ◌∷◌, ◌++◌, length, drop, refl, sym, ◌∙◌, ap, arith, Contains, subst}
use Rattle.std.proofs.Math.Seq.{drop-append-add}
use Rattle.std.proofs.lemmas.List.{drop-append-le}
use Rattle.std.proofs.lemmas.List.Elements.{Contains-append_cases, Contains-append_left, Contains-append_right}
use Rattle.s2id_core.proofs.Lists.{at_head, none_in_nil}
use Rattle.s2ix_bag_lists.specs.Faces.{all_of}
use Rattle.s2ix_bag_pairs.specs.Collection.{Collection}
use Rattle.s2ix_bag_pairs.specs.declared.pair.Held.{Held}
use Rattle.s2ix_table_walk.specs.Contents.{contents_at}
use Rattle.s2ix_table_walk.specs.Places.{LeadsTo}
use Rattle.s2ix_table_walk.specs.Table.{leaf_end}
use Rattle.s2ix_table_spans.specs.SpanTable.{SpanRanges}
use Rattle.s2ix_table_spans.specs.Chains.{chain_of}
use Rattle.s2ix_table_spans.specs.Once.{IsHeldAt, KeepsOnce}
use Rattle.s2ix_table_spans.proofs.Chains.{in_chain}
use Rattle.s2ix_table_heavy.specs.HeavyChains.{heavy_chain}
use Rattle.s2ix_table_heavy.specs.declared.heavy_place.HeavyPlace.{HeavyPlace}
use Rattle.s2ix_table_faced.specs.declared.part_place.FaceHeavyPlace.{FaceHeavyPlace}
use Rattle.s2ix_table_faced.specs.declared.part_place.FacedPlace.{FacedPlace}
use Rattle.s2ix_table_faced.specs.declared.part_place.FacedPlace.TheVariants.{Light, Heavy}
use Rattle.s2ix_table_faced.specs.declared.part_place.PartPlace.{PartPlace}
use Rattle.s2ix_table_parts.specs.FaceSpans.{no_table, table_of}
use Rattle.s2ix_table_parts.specs.Neighbours.{AreNeighbours, held_in}
use Rattle.s2ix_table_faced.specs.Layout.{AreLayered, chunks_on, heavy_in}
use Rattle.s2ix_table_parts.specs.Layers.{ShareNoCell}
use Rattle.s2ix_table_faced.specs.PartPlaces.{chain_from, face_chain, faced_chain, with_behind}
use Rattle.s2ix_table_faced.proofs.Behind.{behind_some, behind_length}
use Rattle.s2ix_table_parts.proofs.Cuts.{same_part}
use Rattle.s2ix_table_faced.proofs.HeavyOnce.{heavy_once, on_heavy_chain, on_some_face, over_of, over_of_leads}
use Rattle.s2ix_table_faced.proofs.HeldAt.{has_own, has_some, has_start, same_first}
use Rattle.s2ix_table_parts.proofs.Neighbours.{span_known}
use Rattle.s2ix_table_faced.proofs.Reading.{part_of_place}

place_with : ℕ → ℕ → PartPlace
place_with part node = record { part = part; node = node }

same_place : (p q : PartPlace) → p.part ≡ q.part → p.node ≡ q.node → p ≡ q
unfolding place_with
same_place p q a b = let e : place_with p.part p.node ≡ place_with q.part q.node = cc in e

-- a place whose chain has a pair is in a part that holds the pair
record IsInPartOf (parts : List SpanRanges) (place : PartPlace) (h : Held) : Type 0 where
  listed : place.part < length parts
  held : Contains (table_of parts place.part).held h

in_part_of : (parts : List SpanRanges) (place : PartPlace) (h : Held) → Contains (chain_from parts place) h → IsInPartOf parts place h
in_part_of parts place h c = record {
  listed = part_of_place parts place.part place.node (has_some (chain_from parts place) h c);
  held = (in_chain (table_of parts place.part).held place.node h c).0;
}

same_of : (from : ℕ) (parts : List SpanRanges) (to : ℕ) (p q : PartPlace) (h : Held) → AreNeighbours from parts to → IsInPartOf parts p h
    → IsInPartOf parts q h → p.part ≡ q.part
same_of from parts to p q h are one other = same_part p.part q.part from parts to h are one.listed other.listed one.held other.held

-- a pair that is held at a place, by the part that holds it
held_there : (from : ℕ) (parts : List SpanRanges) (to part : ℕ) (start p q : PartPlace) (h : Held) → AreNeighbours from parts to
    → IsInPartOf parts q h → q.part ≡ part → IsHeldAt (chain_from parts) start h p
    → IsHeldAt (chain_of (table_of parts part).held) start.node h p.node
held_there from parts to part start p q h are here is at =
    let own = in_part_of parts p h (has_own (chain_from parts) start p h at) in
    let begin = in_part_of parts start h (has_start (chain_from parts) start p h at) in
    let first : start.part ≡ part = same_of from parts to start q h are begin here ∙ is in
    let last : p.part ≡ part = same_of from parts to p q h are own here ∙ is in
    let start_chain = ap (λ n. chain_of (table_of parts n).held start.node) first in
    let own_chain = ap (λ n. chain_of (table_of parts n).held p.node) last in
    record {
      pair = sym own_chain ∙ at.pair ∙ ap (λ cs. h ∷ drop 1 cs) own_chain;
      rest = (at.rest.0, ap (drop at.rest.0) (sym start_chain) ∙ at.rest.1 ∙ own_chain);
    }

pub parts_once : (from : ℕ) (parts : List SpanRanges) (to : ℕ) → AreNeighbours from parts to → KeepsOnce (chain_from parts)
unfolding place_with
parts_once from parts to are = record {
  place = λ start h c.
      let here = in_part_of parts start h c in
      let own = ((span_known from parts to start.part no_table are here.listed).once).place start.node h c in
      (place_with start.part own.0, record { pair = own.1.pair; rest = own.1.rest });
  same = λ start other p q h one two.
      let a = in_part_of parts p h (has_own (chain_from parts) start p h one) in
      let b = in_part_of parts q h (has_own (chain_from parts) other q h two) in
      let part = same_of from parts to p q h are a b in
      let once = (span_known from parts to p.part no_table are a.listed).once in
      let first = held_there from parts to p.part start p p h are a refl one in
      let second = held_there from parts to p.part other q p h are a refl two in
      same_place p q part (once.same start.node other.node p.node q.node h first second);
}

-- ---- pairs behind a chain

-- what begins the whole begins the chain
first_of_chain : (xs over : Collection) (h : Held) → with_behind xs over ≡ h ∷ drop 1 (with_behind xs over) → xs ≡ h ∷ drop 1 xs
first_of_chain [] over h is = absurd (cc)
first_of_chain (x ∷ xs) over h is = let same : x ≡ h = cc in ap (λ (y : Held). y ∷ xs) same

first_of_whole : (xs over : Collection) (h : Held) → xs ≡ h ∷ drop 1 xs → with_behind xs over ≡ h ∷ drop 1 (with_behind xs over)
first_of_whole [] over h is = absurd (cc)
first_of_whole (x ∷ xs) over h is = let same : x ≡ h = cc in ap (λ (y : Held). y ∷ (xs ++ over)) same

-- an end of the chain is one of the whole
length_drop : (k : ℕ) (xs : Collection) → 0 < length (drop k xs) → k ≤ length xs
length_drop zero xs some = omega arith
length_drop (suc k) [] some = absurd (omega arith)
length_drop (suc k) (x ∷ xs) some = let rest = length_drop k xs some in omega arith

end_behind : (k : ℕ) (xs ys over : Collection) → 0 < length xs → 0 < length ys → drop k xs ≡ ys
    → drop k (with_behind xs over) ≡ with_behind ys over
end_behind k xs ys over some more is =
    let len = ap length is in
    ap (drop k) (behind_some xs over some)
    ∙ drop-append-le k xs over (length_drop k xs (omega arith))
    ∙ ap (λ cs. cs ++ over) is
    ∙ sym (behind_some ys over more)

past_chain : (k : ℕ) (xs over : Collection) → 0 < length xs → drop (length xs + k) (with_behind xs over) ≡ drop k over
past_chain k xs over some = ap (drop (length xs + k)) (behind_some xs over some) ∙ drop-append-add xs over k

-- ---- parts under heavy pairs

in_held : (i : ℕ) (parts : List SpanRanges) (h : Held) → Contains (table_of parts i).held h → i < length parts → Contains (held_in parts) h
in_held i [] h c lt = absurd (omega arith)
in_held zero (t ∷ ts) h c lt = Contains-append_left t.held (held_in ts) h c
in_held (suc i) (t ∷ ts) h c lt = Contains-append_right t.held (held_in ts) h (in_held i ts h c (omega arith))

in_heavy : (face : ℕ) (heavy : List (List Collection)) (h : Held) → Contains (all_of (chunks_on heavy face)) h → face < length heavy
    → Contains (heavy_in heavy) h
in_heavy face [] h c lt = absurd (omega arith)
in_heavy zero (chunks ∷ rest) h c lt = Contains-append_left (all_of chunks) (heavy_in rest) h c
in_heavy (suc face) (chunks ∷ rest) h c lt = Contains-append_right (all_of chunks) (heavy_in rest) h (in_heavy face rest h c (omega arith))

-- a pair on a chain that begins in a part is in that part, or among the heavy pairs over it
light_start : (parts : List SpanRanges) (heavy : List (List Collection)) (start : PartPlace) (h : Held) → AreNeighbours 1 parts leaf_end
    → 0 < length (chain_from parts start) → Contains (chain_from parts start) h
    → (p : FacedPlace) × IsHeldAt (faced_chain parts heavy) (Light start) h p
light_start parts heavy start h are some c =
    let at = (parts_once 1 parts leaf_end are).place start h c in
    let own = has_own (chain_from parts) start at.0 h at.1 in
    let part : at.0.part ≡ start.part =
    same_of 1 parts leaf_end at.0 start h are (in_part_of parts at.0 h own) (in_part_of parts start h c) in
    let over = contents_at (table_of parts start.part).from (heavy_in heavy) in
    let same : contents_at (table_of parts at.0.part).from (heavy_in heavy) ≡ over =
    ap (λ n. contents_at (table_of parts n).from (heavy_in heavy)) part in (
      Light at.0,
      record {
        pair = first_of_whole (chain_from parts at.0) (contents_at (table_of parts at.0.part).from (heavy_in heavy)) h at.1.pair;
        rest = (
          at.1.rest.0,
          end_behind at.1.rest.0 (chain_from parts start) (chain_from parts at.0) over some (has_some (chain_from parts at.0) h own) at.1.rest.1
              ∙ ap (with_behind (chain_from parts at.0)) (sym same),
        );
      },
    )

over_start : (parts : List SpanRanges) (heavy : List (List Collection)) (start : PartPlace) (over : Option FaceHeavyPlace) (h : Held)
    → KeepsOnce (face_chain heavy) → 0 < length (chain_from parts start)
    → LeadsTo (face_chain heavy) over (contents_at (table_of parts start.part).from (heavy_in heavy))
    → Contains (contents_at (table_of parts start.part).from (heavy_in heavy)) h
    → (p : FacedPlace) × IsHeldAt (faced_chain parts heavy) (Light start) h p
over_start parts heavy start None h once some leads c =
    absurd (none_in_nil h (subst (λ cs. Contains cs h) (sym leads.pairs_are) c))
over_start parts heavy start (Some first) h once some leads c =
    let at = once.place first h (subst (λ cs. Contains cs h) (sym leads.pairs_are) c) in
    let xs = chain_from parts start in
    let over = contents_at (table_of parts start.part).from (heavy_in heavy) in (
      Heavy at.0,
      record {
        pair = at.1.pair;
        rest = (
          length xs + at.1.rest.0,
          past_chain at.1.rest.0 xs over some ∙ ap (drop at.1.rest.0) (sym leads.pairs_are) ∙ at.1.rest.1,
        );
      },
    )

faced_place : (parts : List SpanRanges) (heavy : List (List Collection)) (heavy_places : List (Option HeavyPlace)) → AreNeighbours 1 parts leaf_end
    → AreLayered heavy parts heavy_places → KeepsOnce (face_chain heavy) → (start : FacedPlace) (h : Held) → Contains (faced_chain parts heavy start) h
    → (p : FacedPlace) × IsHeldAt (faced_chain parts heavy) start h p
faced_place parts heavy heavy_places are layered once (Heavy start) h c =
    let at = once.place start h c in
    (Heavy at.0, record { pair = at.1.pair; rest = at.1.rest })
faced_place parts heavy heavy_places are layered once (Light start) h c =
    let xs = chain_from parts start in
    let over = contents_at (table_of parts start.part).from (heavy_in heavy) in
    let some = behind_length xs over (has_some (with_behind xs over) h c) in
    let within = part_of_place parts start.part start.node some in
    elim (Contains-append_cases xs over h (subst (λ cs. Contains cs h) (behind_some xs over some) c)) [
      | inl own ↦ light_start parts heavy start h are some own
      | inr above ↦
          over_start parts heavy start (over_of parts heavy_places start.part) h once some
          (over_of_leads parts heavy heavy_places start.part are layered within) above
    ]

-- no chain of a part begins with a pair with which one of heavy pairs does
not_both : (parts : List SpanRanges) (heavy : List (List Collection)) (p : PartPlace) (q : FaceHeavyPlace) (h : Held) → length heavy ≡ 6
    → ShareNoCell (held_in parts) (heavy_in heavy) → Contains (chain_from parts p) h → Contains (face_chain heavy q) h → ⊥
not_both parts heavy p q h six apart light dark =
    let part = in_part_of parts p h light in
    let face = on_some_face heavy q six (has_some (face_chain heavy q) h dark) in
    apart h h (in_held p.part parts h part.held part.listed)
    (in_heavy q.face heavy h (on_heavy_chain (chunks_on heavy q.face) q.place h dark) (omega arith)) refl

-- a light place's chain in its part begins with the pair that the whole chain begins with
light_first : (parts : List SpanRanges) (heavy : List (List Collection)) (p : PartPlace) (h : Held)
    → faced_chain parts heavy (Light p) ≡ h ∷ drop 1 (faced_chain parts heavy (Light p))
    → chain_from parts p ≡ h ∷ drop 1 (chain_from parts p)
light_first parts heavy p h is = first_of_chain (chain_from parts p) (contents_at (table_of parts p.part).from (heavy_in heavy)) h is

has_first : (xs : Collection) (h : Held) → xs ≡ h ∷ drop 1 xs → Contains xs h
has_first xs h is = subst (λ cs. Contains cs h) (sym is) (at_head h (drop 1 xs))

same_faced : (parts : List SpanRanges) (heavy : List (List Collection)) → AreNeighbours 1 parts leaf_end → length heavy ≡ 6
    → ShareNoCell (held_in parts) (heavy_in heavy) → KeepsOnce (face_chain heavy) → (p q : FacedPlace) (h : Held)
    → faced_chain parts heavy p ≡ h ∷ drop 1 (faced_chain parts heavy p)
    → faced_chain parts heavy q ≡ h ∷ drop 1 (faced_chain parts heavy q) → p ≡ q
same_faced parts heavy are six apart once (Light p) (Light q) h one other =
    ap (λ (x : PartPlace). Light x)
    (same_first (chain_from parts) p q h (parts_once 1 parts leaf_end are) (light_first parts heavy p h one) (light_first parts heavy q h other))
same_faced parts heavy are six apart once (Heavy p) (Heavy q) h one other =
    ap (λ (x : FaceHeavyPlace). Heavy x) (same_first (face_chain heavy) p q h once one other)
same_faced parts heavy are six apart once (Light p) (Heavy q) h one other =
    absurd (not_both parts heavy p q h six apart (has_first (chain_from parts p) h (light_first parts heavy p h one))
    (has_first (face_chain heavy q) h other))
same_faced parts heavy are six apart once (Heavy p) (Light q) h one other =
    absurd (not_both parts heavy q p h six apart (has_first (chain_from parts q) h (light_first parts heavy q h other))
    (has_first (face_chain heavy p) h one))

-- a pair has one place in parts under heavy pairs, if no cell has pairs in both, and on each face a heavy pair has one place
pub faced_once : (parts : List SpanRanges) (heavy : List (List Collection)) (heavy_places : List (Option HeavyPlace))
    → AreNeighbours 1 parts leaf_end → AreLayered heavy parts heavy_places → ShareNoCell (held_in parts) (heavy_in heavy)
    → ((face : ℕ) → face < 6 → KeepsOnce (heavy_chain (chunks_on heavy face))) → KeepsOnce (faced_chain parts heavy)
faced_once parts heavy heavy_places are layered apart each =
    let once = heavy_once heavy layered.six layered.on_faces each in
    record {
      place = λ start h c. faced_place parts heavy heavy_places are layered once start h c;
      same = λ start other p q h one two. same_faced parts heavy are layered.six apart once p q h one.pair two.pair;
    }
