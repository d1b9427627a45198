-- That parts are joined, that they lie under heavy pairs, and that they keep a pair once, has one proof each: what a type keeps of it in a
-- ghost field tells no two of its values apart.
use Rattle.std.specs.Prelude.{◌≡◌, ◌⊎◌, ℕ, Option, List, [], ◌∷◌}
use Rattle.std.specs.Coded.{Coded, Coded-set, code_by, coded×, coded⊎, coded_ℕ}
use Rattle.std.proofs.Common.{inl, inr, refl}
use Rattle.std.proofs.Props.{props}
use Rattle.s2ix_bag_pairs.specs.Collection.{Collection}
use Rattle.s2ix_bag_pairs.specs.OneProof.{IsCollection-prop}
use Rattle.s2ix_table_walk.specs.Table.{leaf_end}
use Rattle.s2ix_table_spans.specs.Once.{KeepsOnce}
use Rattle.s2ix_table_spans.specs.OneProof.{KeepsOnce-prop, IsSpanTable-prop}
use Rattle.s2ix_table_spans.specs.SpanTable.{SpanRanges}
use Rattle.s2ix_table_heavy.specs.declared.heavy_place.HeavyPlace.{HeavyPlace}
use Rattle.s2ix_table_faced.specs.declared.part_place.FaceHeavyPlace.{FaceHeavyPlace}
use Rattle.s2ix_table_faced.specs.declared.part_place.FacedPlace.{FacedPlace}
use Rattle.s2ix_table_faced.specs.declared.part_place.FacedPlace.TheVariants.{Light, Heavy}
use Rattle.s2ix_table_faced.specs.declared.part_place.PartPlace.{PartPlace}
use Rattle.s2ix_table_faced.specs.declared.offset.Offset.{Offset}
use Rattle.s2ix_table_parts.specs.Neighbours.{AreNeighbours}
use Rattle.s2ix_table_faced.specs.Layout.{AreAllUnder, AreLayered, AreLed}
use Rattle.s2ix_table_faced.specs.PartPlaces.{faced_chain}
use Rattle.s2ix_table_faced.specs.Whole.{AreJoined}

-- two places are equal in one way at most, since the numbers that they are made of are
coded_part_place : Coded PartPlace
coded_part_place =
    code_by (ℕ × ℕ) (coded× coded_ℕ coded_ℕ) (λ (p : PartPlace). (p.part, p.node)) (λ p. record { part = p.0; node = p.1 }) (λ _. refl)

coded_heavy_place : Coded HeavyPlace
coded_heavy_place =
    code_by (ℕ × ℕ) (coded× coded_ℕ coded_ℕ) (λ (p : HeavyPlace). (p.chunk, p.node)) (λ p. record { chunk = p.0; node = p.1 }) (λ _. refl)

coded_face_place : Coded FaceHeavyPlace
coded_face_place =
    code_by (ℕ × HeavyPlace) (coded× coded_ℕ coded_heavy_place) (λ (p : FaceHeavyPlace). (p.face, p.place)) (λ p. record { face = p.0; place = p.1 }) (λ _. refl)

split : FacedPlace → PartPlace ⊎ FaceHeavyPlace
split (Light p) = inl p
split (Heavy p) = inr p

unsplit : PartPlace ⊎ FaceHeavyPlace → FacedPlace
unsplit (inl p) = Light p
unsplit (inr p) = Heavy p

unsplit_split : (p : FacedPlace) → unsplit (split p) ≡ p
unfolding unsplit split
unsplit_split (Light p) = refl
unsplit_split (Heavy p) = refl

coded_place : Coded FacedPlace
coded_place = code_by (PartPlace ⊎ FaceHeavyPlace) (coded⊎ coded_part_place coded_face_place) split unsplit unsplit_split

pub faced_once-prop : (parts : List SpanRanges) (heavy : List (List Collection)) → IsProp (KeepsOnce (faced_chain parts heavy))
faced_once-prop parts heavy = KeepsOnce-prop (Coded-set coded_place) (faced_chain parts heavy)

-- and so are two offsets
coded_offset : Coded Offset
coded_offset =
    code_by (ℕ × ℕ) (coded× coded_ℕ coded_ℕ) (λ (s : Offset). (s.place, s.start)) (λ p. record { place = p.0; start = p.1 }) (λ _. refl)

neighbours-prop : (from : ℕ) (tables : List SpanRanges) (to : ℕ) → IsProp (AreNeighbours from tables to)
neighbours-prop from [] to = hlevel props
neighbours-prop from (t ∷ ts) to = hlevel (props, IsSpanTable-prop t, neighbours-prop t.to ts to)

under-prop : (heavy : Collection) (parts : List SpanRanges) → IsProp (AreAllUnder heavy parts)
under-prop heavy [] = hlevel props
under-prop heavy (t ∷ ts) = hlevel (props, under-prop heavy ts)

pub joined-prop : (parts : List SpanRanges) (heavy : Collection) (starts : List ℕ) (offsets : List Offset) (count : ℕ)
    → IsProp (AreJoined parts heavy starts offsets count)
joined-prop parts heavy starts offsets count =
    hlevel (props, coded_offset, IsCollection-prop 0 heavy, neighbours-prop 1 parts leaf_end, under-prop heavy parts)

led-prop : (heavy : List (List Collection)) (parts : List SpanRanges) (heavy_places : List (Option HeavyPlace)) → IsProp (AreLed heavy parts heavy_places)
led-prop heavy [] heavy_places = hlevel props
led-prop heavy (t ∷ ts) [] = hlevel props
led-prop heavy (t ∷ ts) (over ∷ heavy_places) = hlevel (props, led-prop heavy ts heavy_places)

pub layered-prop : (heavy : List (List Collection)) (parts : List SpanRanges) (heavy_places : List (Option HeavyPlace))
    → IsProp (AreLayered heavy parts heavy_places)
layered-prop heavy parts heavy_places = hlevel (props, led-prop heavy parts heavy_places)
