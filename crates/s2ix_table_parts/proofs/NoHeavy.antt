-- Without heavy pairs there is one layer.
use Rattle.std.proofs.Common.{◌≡◌, ℕ, ◌+◌, Option, None, List, [], ◌∷◌, length, replicate, refl, sym, ap, subst, subst₂, ◌∙◌, rules, arith}
use Rattle.s2id_core.proofs.Lists.{none_in_nil}
use Rattle.s2ix_bag_lists.specs.Faces.{all_of}
use Rattle.s2ix_bag_pairs.specs.Collection.{Collection}
use Rattle.s2ix_table_walk.specs.Contents.{contents_at}
use Rattle.s2ix_table_walk.specs.InOrder.{choice}
use Rattle.s2ix_table_walk.specs.Places.{IsPlace, LeadsTo}
use Rattle.s2ix_table_spans.specs.SpanTable.{SpanRanges}
use Rattle.s2ix_table_heavy.specs.HeavyChains.{heavy_chain}
use Rattle.s2ix_table_heavy.specs.declared.heavy_place.HeavyPlace.{HeavyPlace}
use Rattle.s2ix_table_parts.specs.FaceSpans.{face_begin}
use Rattle.s2ix_table_parts.specs.Neighbours.{AreNeighbours}
use Rattle.s2ix_table_parts.specs.Layered.{AreHeavyPlaces, IsFaceLayered, IsUnder}

nothing_over : (q : ℕ) → contents_at q [] ≡ []
unfolding contents_at choice
nothing_over q = refl

pub none_over : (q : ℕ) (chunks : List Collection) → chunks ≡ [] → contents_at q (all_of chunks) ≡ []
none_over q chunks none = ap (λ (cs : List Collection). contents_at q (all_of cs)) none ∙ nothing_over q

pub leads_to_none : (chain : HeavyPlace → Collection) (q : ℕ) (chunks : List Collection) → chunks ≡ []
    → LeadsTo chain None (contents_at q (all_of chunks))
leads_to_none chain q chunks none = record { pairs_are = sym (none_over q chunks none); place = λ p is. search rules }

pub no_chain : (place : HeavyPlace) → heavy_chain [] place ≡ []
unfolding heavy_chain choice
no_chain place = refl

pub no_place : (chunks : List Collection) (place : HeavyPlace) → chunks ≡ [] → IsPlace (heavy_chain chunks) place → ⊥
no_place chunks place none is =
    let empty = ap (λ (cs : List Collection). length (heavy_chain cs place)) none ∙ ap length (no_chain place) in
    omega (arith, empty, is)

under_none : (from to : ℕ) → IsUnder [] from to None
under_none from to = record {
  same = record { same = λ q odd ge lt. nothing_over q ∙ sym (nothing_over from) };
  leads = leads_to_none (heavy_chain []) from [] refl;
}

pub heavy_places_none : (ts : List SpanRanges) → AreHeavyPlaces [] ts (replicate (length ts) None)
heavy_places_none [] = refl
heavy_places_none (t ∷ ts) = (under_none t.from t.to, heavy_places_none ts)

-- parts alone are a face in two layers
pub all_light : (face : ℕ) (ts us : List SpanRanges) (heavy : List Collection) (heavy_places : List (Option HeavyPlace))
    → AreNeighbours (face_begin face) ts (face_begin (face + 1)) → us ≡ ts → heavy ≡ [] → heavy_places ≡ replicate (length ts) None
    → IsFaceLayered face heavy us heavy_places
all_light face ts us heavy heavy_places are same none all =
    subst (λ (xs : List (Option HeavyPlace)). IsFaceLayered face heavy us xs) (sym all)
    (subst₂ (λ (vs : List SpanRanges) (cs : List Collection). IsFaceLayered face cs vs (replicate (length ts) None)) (sym same) (sym none)
    (record {
      neighbours = are;
      are_chunks = record { rises = tt; within_limit = omega arith; filled = tt; one_cell = λ chunk is. absurd (none_in_nil chunk is) };
      on_face = λ h is. absurd (none_in_nil h is);
      apart = λ l h light is. absurd (none_in_nil h is);
      are_heavy_places = heavy_places_none ts;
    }))
