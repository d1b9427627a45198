use Rattle.std.proofs.Common.{◌≡◌, ◌+◌, ℕ, List, [], length, replicate, None, Result, Ok, Err, IfOk, sym, ap, ap₂, ◌∙◌, subst, subst₂, arith, rules}
use Rattle.s2ix_bag_lists.specs.Faces.{all_of}
use Rattle.s2ix_bag_lists.specs.View.{lists_in}
use Rattle.s2ix_bag_pairs.specs.Collection.{Collection}
use Rattle.s2ix_table_spans.specs.SpanTable.{IsInSpan, SpanRanges}
use Rattle.s2ix_table_parts.specs.FaceSpans.{AreOnFace, face_begin, heavy_places_of, spans_of, tables_of}
use Rattle.s2ix_table_parts.specs.Neighbours.{AreNeighbours, held_in}
use Rattle.s2ix_table_parts.specs.Layered.{AreLightParts, IsFaceLayered, face_pairs}
use Rattle.s2ix_table_parts.specs.Layers.{joined_layers}
use Rattle.s2ix_table_parts.proofs.InSpans.{face_in_span}
use Rattle.s2ix_table_parts.proofs.Layers.{cells_part_pairs, joined_layers_none, length_joined_layers}
use Rattle.s2ix_table_parts.proofs.Layering.{two_layers}
use Rattle.s2ix_table_parts.proofs.NoHeavy.{all_light}
use Rattle.s2ix_table_parts.proofs.face_parts.face_parts.Goals as goal

-- what three facts on an answer give
if_ok : {A E : Type 0} (r : Result A E) (P Q R S : A → Type 0) → IfOk r P → IfOk r Q → IfOk r R → ((x : A) → P x → Q x → R x → S x) → IfOk r S
if_ok (Ok x) P Q R S p q r all = all x p q r
if_ok (Err e) P Q R S p q r all = tt

in_read_span : (face from to : ℕ) (held : Collection) → from ≡ face_begin face → to ≡ face_begin (face + 1) → AreOnFace face held
    → IsInSpan held from to
in_read_span face from to held begin end on = subst₂ (IsInSpan held) (sym begin) (sym end) (face_in_span face held on)

pub parts_over-requires-clause-span : goal.parts_over-requires-clause-span
parts_over-requires-clause-span c =
    in_read_span c.args.face c.face_begin-from.result c.face_begin-to.result (all_of (lists_in c.parts.result)) c.face_begin-from.ensures
    c.face_begin-to.ensures (subst (AreOnFace c.args.face) (sym c.parts.ensures.list) c.requires.on_face)

pub layered-requires-clause-within_limit : goal.layered-requires-clause-within_limit
layered-requires-clause-within_limit c =
    let light = c.in_ok-layers.layers.light.items in
    let heavy = all_of c.in_ok-layers.layers.chunks.items in
    let is = c.in_ok-layers.ensures in
    let all : c.as_slice-then-has_large.result.now ≡ c.args.held.now = c.as_slice-then-has_large.ensures.value ∙ c.in_ok-all.ensures in
    let both = length_joined_layers light heavy is.rises is.chunks.rises (cells_part_pairs light heavy is.apart) in
    let whole = ap (λ (hs : Collection). length hs) (is.pairs ∙ all) in
    let within_limit = c.requires.within_limit in
    omega arith

pub layered-requires-clause-span : goal.layered-requires-clause-span
layered-requires-clause-span c =
    let all : c.as_slice-then-has_large.result.now ≡ c.args.held.now = c.as_slice-then-has_large.ensures.value ∙ c.in_ok-all.ensures in
    let on = subst (AreOnFace c.args.face) (sym all) c.requires.on_face in
    in_read_span c.args.face c.face_begin-from.result c.face_begin-to.result c.in_ok-layers.layers.light.items c.face_begin-from.ensures
    c.face_begin-to.ensures (λ h is. on h (c.in_ok-layers.ensures.of_held h is))

pub returns-in-Some-clause-layered : goal.returns-in-Some-clause-layered
returns-in-Some-clause-layered c =
    let made = c.in-Some.layered in
    let light = c.in_ok-layers.layers.light.items in
    let chunks = c.in_ok-layers.layers.chunks.items in
    let is = c.in_ok-layers.ensures in
    let parts = spans_of made.parts.items in
    let heavy_places = heavy_places_of made.parts.items in
    let all : c.as_slice-then-has_large.result.now ≡ c.args.held.now = c.as_slice-then-has_large.ensures.value ∙ c.in_ok-all.ensures in
    let on = subst (AreOnFace c.args.face) (sym all) c.requires.on_face in
    let same : made.heavy ≡ chunks = search rules in
    let are : AreLightParts chunks light c.face_begin-from.result parts heavy_places c.face_begin-to.result = search rules in
    two_layers c.args.face c.as_slice-then-has_large.result.now light chunks made.heavy parts heavy_places
    (subst₂ (λ (a b : ℕ). AreLightParts chunks light a parts heavy_places b) c.face_begin-from.ensures c.face_begin-to.ensures are) same is.chunks is.apart is.of_heavy on

pub returns-clause-layered : goal.returns-clause-layered
returns-clause-layered c =
    let tables = tables_of c.in_ok-tables.tables.items in
    let face = c.args.face in
    let are : AreNeighbours (face_begin face) tables (face_begin (face + 1)) =
    subst₂ (λ (a b : ℕ). AreNeighbours a tables b) c.face_begin-from.ensures c.face_begin-to.ensures
    c.in_ok-tables.ensures.neighbours in
    let is = c.plain.ensures in
    let own = ap tables_of c.as_slice-2.ensures.value in
    if_ok c.plain.result (λ f. spans_of f.parts.items ≡ tables_of c.as_slice-2.result.now) (λ f. f.heavy ≡ [])
    (λ f. heavy_places_of f.parts.items ≡ replicate (length (tables_of c.as_slice-2.result.now)) None)
    (λ f. IsFaceLayered face f.heavy (spans_of f.parts.items) (heavy_places_of f.parts.items)) is.parts is.heavy is.heavy_places
    (λ f same none all. all_light face tables (spans_of f.parts.items) f.heavy (heavy_places_of f.parts.items) are
    (same ∙ own) none (all ∙ ap (λ (ts : List SpanRanges). replicate (length ts) None) own))

pub returns-clause-pairs : goal.returns-clause-pairs
returns-clause-pairs c =
    let is = c.plain.ensures in
    let own = ap (λ ts. held_in (tables_of ts)) c.as_slice-2.ensures.value in
    let all = c.in_ok-tables.ensures.pairs ∙ c.parts.ensures.list in
    if_ok c.plain.result (λ f. spans_of f.parts.items ≡ tables_of c.as_slice-2.result.now) (λ f. f.heavy ≡ [])
    (λ f. heavy_places_of f.parts.items ≡ replicate (length (tables_of c.as_slice-2.result.now)) None)
    (λ f. face_pairs f.parts.items f.heavy ≡ c.args.held.now) is.parts is.heavy is.heavy_places
    (λ f same none _. ap₂ (λ (hs : Collection) (cs : List Collection). joined_layers hs (all_of cs)) (ap (λ ts. held_in ts) same) none
    ∙ joined_layers_none (held_in (tables_of c.as_slice-2.result.now)) ∙ own ∙ all)
