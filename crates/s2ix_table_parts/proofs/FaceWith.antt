-- Parts of a face, and what leads to the heavy pairs over them, when others take their place.
use Rattle.std.proofs.Common.{◌≡◌, ℕ, zero, suc, ◌+◌, ◌≤◌, Option, None, List, [], ◌∷◌, ◌++◌, length, take, drop, replicate, refl, sym, ◌∙◌, ap, arith, subst}
use Rattle.std.proofs.lemmas.List.{append-nil, drop_all, length-replicate}
use Rattle.s2id_core.proofs.Lists.{none_in_nil}
use Rattle.s2ix_bag_lists.specs.Faces.{all_of}
use Rattle.s2ix_bag_pairs.specs.Collection.{Collection}
use Rattle.s2ix_table_spans.specs.SpanTable.{SpanRanges}
use Rattle.s2ix_table_heavy.specs.declared.heavy_place.HeavyPlace.{HeavyPlace}
use Rattle.s2ix_table_parts.specs.FaceSpans.{face_begin}
use Rattle.s2ix_table_parts.specs.Neighbours.{AreNeighbours, held_in}
use Rattle.s2ix_table_parts.specs.Layered.{AreHeavyPlaces, IsFaceLayered, IsFaceWith}
use Rattle.s2ix_table_parts.specs.Layers.{joined_layers}
use Rattle.s2ix_table_parts.specs.Parts.{with_parts}
use Rattle.s2ix_table_parts.proofs.Layers.{joined_layers_none}
use Rattle.s2ix_table_parts.proofs.NoHeavy.{heavy_places_none}

-- ---- places, for some of the parts

pub length_heavy_places : (chunks : List Collection) (ts : List SpanRanges) (xs : List (Option HeavyPlace)) → AreHeavyPlaces chunks ts xs → length xs ≡ length ts
length_heavy_places chunks [] xs are = ap length are
length_heavy_places chunks (t ∷ ts) [] are = absurd are
length_heavy_places chunks (t ∷ ts) (x ∷ xs) are = ap suc (length_heavy_places chunks ts xs are.1)

pub heavy_places_append : (chunks : List Collection) (ts us : List SpanRanges) (xs ys : List (Option HeavyPlace)) → AreHeavyPlaces chunks ts xs
    → AreHeavyPlaces chunks us ys → AreHeavyPlaces chunks (ts ++ us) (xs ++ ys)
heavy_places_append chunks [] us xs ys a b = subst (λ zs. AreHeavyPlaces chunks us (zs ++ ys)) (sym a) b
heavy_places_append chunks (t ∷ ts) us [] ys a b = absurd a
heavy_places_append chunks (t ∷ ts) us (x ∷ xs) ys a b = (a.0, heavy_places_append chunks ts us xs ys a.1 b)

none_taken : (n : ℕ) (xs : List (Option HeavyPlace)) → xs ≡ [] → take n xs ≡ []
none_taken zero xs none = refl
none_taken (suc n) [] none = refl
none_taken (suc n) (x ∷ xs) none = absurd (let long = ap length none in omega (arith, long))

pub heavy_places_taken : (n : ℕ) (chunks : List Collection) (ts : List SpanRanges) (xs : List (Option HeavyPlace)) → AreHeavyPlaces chunks ts xs
    → AreHeavyPlaces chunks (take n ts) (take n xs)
heavy_places_taken zero chunks ts xs are = refl
heavy_places_taken (suc n) chunks [] xs are = none_taken (suc n) xs are
heavy_places_taken (suc n) chunks (t ∷ ts) [] are = absurd are
heavy_places_taken (suc n) chunks (t ∷ ts) (x ∷ xs) are = (are.0, heavy_places_taken n chunks ts xs are.1)

pub heavy_places_dropped : (n : ℕ) (chunks : List Collection) (ts : List SpanRanges) (xs : List (Option HeavyPlace)) → AreHeavyPlaces chunks ts xs
    → AreHeavyPlaces chunks (drop n ts) (drop n xs)
heavy_places_dropped zero chunks ts xs are = are
heavy_places_dropped (suc n) chunks [] xs are = drop_all (suc n) xs (let none = ap length are in omega (arith, none))
heavy_places_dropped (suc n) chunks (t ∷ ts) [] are = absurd are
heavy_places_dropped (suc n) chunks (t ∷ ts) (x ∷ xs) are = heavy_places_dropped n chunks ts xs are.1

-- ---- a face in one layer stays one

pub light_with : (face : ℕ) (parts made : List SpanRanges) (heavy_places made_heavy_places : List (Option HeavyPlace)) (first end : ℕ) (heavy : List Collection)
    → IsFaceLayered face [] parts heavy_places → first ≤ end → end ≤ length parts
    → AreNeighbours (face_begin face) (with_parts parts first end made) (face_begin (face + 1))
    → made_heavy_places ≡ replicate (length made) None → heavy ≡ []
    → IsFaceWith face (held_in (with_parts parts first end made)) parts heavy_places first end made made_heavy_places heavy
light_with face parts made heavy_places made_heavy_places first end heavy was order within neighbours none no_heavy =
    subst (λ hs. IsFaceWith face (held_in (with_parts parts first end made)) parts heavy_places first end made made_heavy_places hs) (sym no_heavy)
    (subst (λ os. IsFaceWith face (held_in (with_parts parts first end made)) parts heavy_places first end made os []) (sym none) (record {
      order = order;
      within = within;
      same_length = length-replicate (length made) None;
      layered = record {
        neighbours = neighbours;
        are_chunks = was.are_chunks;
        on_face = was.on_face;
        apart = λ l h light held. absurd (none_in_nil h held);
        are_heavy_places =
            heavy_places_append [] (take first parts) (made ++ drop end parts) (take first heavy_places) (replicate (length made) None ++ drop end heavy_places)
            (heavy_places_taken first [] parts heavy_places was.are_heavy_places)
            (heavy_places_append [] made (drop end parts) (replicate (length made) None) (drop end heavy_places) (heavy_places_none made)
            (heavy_places_dropped end [] parts heavy_places was.are_heavy_places));
      };
      pairs = joined_layers_none (held_in (with_parts parts first end made));
    }))

-- ---- all parts of a face give way

whole_with : (n : ℕ) (parts made : List SpanRanges) → n ≡ length parts → with_parts parts 0 n made ≡ made
whole_with n parts made all = ap (λ ts. made ++ ts) (drop_all n parts (omega (arith, all))) ∙ append-nil made

pub all_give_way : (face n : ℕ) (held : Collection) (parts made : List SpanRanges) (heavy_places made_heavy_places : List (Option HeavyPlace)) (heavy : List Collection)
    → n ≡ length parts → length heavy_places ≡ length parts → IsFaceLayered face heavy made made_heavy_places
    → joined_layers (held_in made) (all_of heavy) ≡ held → IsFaceWith face held parts heavy_places 0 n made made_heavy_places heavy
all_give_way face n held parts made heavy_places made_heavy_places heavy all many layered pairs =
    let now = whole_with n parts made all in
    let heavy_places_now : made_heavy_places ++ drop n heavy_places ≡ made_heavy_places =
    ap (λ os. made_heavy_places ++ os) (drop_all n heavy_places (omega (arith, all, many))) ∙ append-nil made_heavy_places in
    record {
      order = omega arith;
      within = omega (arith, all);
      same_length = length_heavy_places heavy made made_heavy_places layered.are_heavy_places;
      layered = subst (λ ts. IsFaceLayered face heavy ts (made_heavy_places ++ drop n heavy_places)) (sym now) (subst (λ os. IsFaceLayered face heavy made os) (sym heavy_places_now) layered);
      pairs = ap (λ ts. joined_layers (held_in ts) (all_of heavy)) now ∙ pairs;
    }

-- the same, by what gives way
pub all_given : (face count first end : ℕ) (held : Collection) (parts made : List SpanRanges) (heavy_places made_heavy_places : List (Option HeavyPlace)) (heavy : List Collection)
    → first ≡ 0 → end ≡ count → count ≡ length parts → length heavy_places ≡ length parts → IsFaceLayered face heavy made made_heavy_places
    → joined_layers (held_in made) (all_of heavy) ≡ held → IsFaceWith face held parts heavy_places first end made made_heavy_places heavy
all_given face count first end held parts made heavy_places made_heavy_places heavy none last all many layered pairs =
    subst (λ k. IsFaceWith face held parts heavy_places k end made made_heavy_places heavy) (sym none)
    (all_give_way face end held parts made heavy_places made_heavy_places heavy (last ∙ all) many layered pairs)

-- the face is then what took their place
pub all_gave_way : (face count first end : ℕ) (held : Collection) (parts made : List SpanRanges) (heavy_places made_heavy_places : List (Option HeavyPlace)) (heavy : List Collection)
    → first ≡ 0 → end ≡ count → count ≡ length parts → length heavy_places ≡ length parts → IsFaceWith face held parts heavy_places first end made made_heavy_places heavy
    → IsFaceLayered face heavy made made_heavy_places × (joined_layers (held_in made) (all_of heavy) ≡ held)
all_gave_way face count first end held parts made heavy_places made_heavy_places heavy none last all many is =
    let from : IsFaceWith face held parts heavy_places 0 end made made_heavy_places heavy =
    subst (λ k. IsFaceWith face held parts heavy_places k end made made_heavy_places heavy) none is in
    let now = whole_with end parts made (last ∙ all) in
    let heavy_places_now : made_heavy_places ++ drop end heavy_places ≡ made_heavy_places =
    ap (λ os. made_heavy_places ++ os) (drop_all end heavy_places (omega (arith, last, all, many))) ∙ append-nil made_heavy_places in (
      subst (λ os. IsFaceLayered face heavy made os) heavy_places_now (subst (λ ts. IsFaceLayered face heavy ts (made_heavy_places ++ drop end heavy_places)) now from.layered),
      sym (ap (λ ts. joined_layers (held_in ts) (all_of heavy)) now) ∙ from.pairs,
    )
