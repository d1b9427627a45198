-- A change of cells of both layers: the entries of heavy cells come first, then the others.
use Rattle.std.proofs.Common.{◌≡◌, Option, drop, ap₂, ℕ, suc, ◌+◌, ◌<◌, ◌≤◌, inl, inr, Bool, true, false, ◌||◌, List, [], ◌∷◌, ◌++◌, get_or, length, take, refl, sym, ap, ◌∙◌, arith, eq-eqb, ne_eqb, append-nil, subst, Contains}
use Rattle.std.proofs.Math.Seq.{take-suc}
use Rattle.std.proofs.lemmas.Bool.{both_ways, cases_Bool, cases_eq, cond-true, cond-false}
use Rattle.std.proofs.lemmas.List.Elements.{All-contains, All-contains_itself, All-filter, filter-append, filter_passes}
use Rattle.s2id_core.specs.CellId.{raw_of}
use Rattle.s2id_core.specs.declared.cell_id.CellId.{CellId}
use Rattle.s2id_core.proofs.Cells.{same_cell}
use Rattle.s2id_core.proofs.Lists.{at_head, cons_cases, in_tail, none_in_nil}
use Rattle.s2ix_bag_lists.specs.Faces.{all_of}
use Rattle.s2ix_bag_pairs.specs.Change.{IsChangeList, changed}
use Rattle.s2ix_bag_pairs.specs.Collection.{Collection, IsCollection}
use Rattle.s2ix_bag_pairs.specs.declared.pair.Entry.{Entry}
use Rattle.s2ix_bag_pairs.specs.declared.pair.Held.{Held}
use Rattle.s2ix_bag_pairs.proofs.Changes.{changed_keeps}
use Rattle.s2ix_table_spans.specs.Blocks.{HoldsCell}
use Rattle.s2ix_table_spans.specs.SpanTable.{SpanRanges}
use Rattle.s2ix_table_heavy.specs.declared.heavy_place.HeavyPlace.{HeavyPlace}
use Rattle.s2ix_table_parts.specs.FaceSpans.{AreOnFace}
use Rattle.s2ix_table_parts.specs.Neighbours.{held_in}
use Rattle.s2ix_table_parts.specs.Layered.{HaveLightCells, HaveOtherCells, IsFaceLayered, IsFaceWith}
use Rattle.s2ix_table_parts.specs.Parts.{with_parts}
use Rattle.s2ix_table_parts.specs.Layers.{AreLayersBy, entries_where, opposite, holds_cell, joined_layers}
use Rattle.s2ix_table_parts.proofs.HeavyChanged.{heavy_layer}
use Rattle.s2ix_table_parts.proofs.HeldWhere.{entries_rise}
use Rattle.s2ix_table_parts.proofs.Layers.{cells_part_pairs, heavy_in_joined_layers, length_joined_layers}
use Rattle.s2ix_table_parts.proofs.LayersChanged.{changed_layers, changed_joined_layers, false_from_opposite, layers_share_no_cell}
use Rattle.s2ix_table_parts.proofs.LightChanged.{light_layer}

-- ---- the test

-- a test that finds a cell tells of a pair with it
pub holds_told : (held : Collection) (cell : CellId) → holds_cell held cell ≡ true → HoldsCell held cell
holds_told [] cell t = absurd (both_ways false refl t)
holds_told (h ∷ hs) cell t =
    elim (cases_eq (raw_of h.pair.cell) (raw_of cell)) [
      | inl e ↦ (h, at_head h hs, same_cell h.pair.cell cell e)
      | inr ne ↦
          (let other = ap (λ b. b || holds_cell hs cell) (ne_eqb (raw_of h.pair.cell) (raw_of cell) ne) in
          let rest = holds_told hs cell (sym other ∙ t) in
          (rest.0, in_tail h hs rest.0 rest.1, rest.2))
    ]

-- and finds each
pub holds_found : (held : Collection) (cell : CellId) → HoldsCell held cell → holds_cell held cell ≡ true
holds_found [] cell is = absurd (none_in_nil is.0 is.1)
holds_found (h ∷ hs) cell is =
    let Or : Bool → Bool = λ b. b || holds_cell hs cell in
    elim (cases_eq (raw_of h.pair.cell) (raw_of cell)) [
      | inl e ↦ ap Or (eq-eqb (raw_of h.pair.cell) (raw_of cell) e)
      | inr ne ↦
          elim (cons_cases h hs is.0 is.1) [
            | inl same ↦ absurd (ne (ap (λ (x : Held). raw_of x.pair.cell) same ∙ ap raw_of is.2))
            | inr rest ↦ ap Or (ne_eqb (raw_of h.pair.cell) (raw_of cell) ne) ∙ holds_found hs cell (is.0, rest, is.2)
          ]
    ]

-- and no other
pub not_found : (held : Collection) (cell : CellId) → (HoldsCell held cell → ⊥) → holds_cell held cell ≡ false
not_found held cell none =
    elim (cases_Bool (holds_cell held cell)) [
      | inl t ↦ absurd (none (holds_told held cell t))
      | inr f ↦ f
    ]

-- ---- the entries that pass it

in_entries : (test : CellId → Bool) (es : List Entry) (e : Entry) → Contains (entries_where test es) e
    → Contains es e × (test e.pair.cell ≡ true)
in_entries test es e held =
    let passes : Entry → Bool = λ x. test x.pair.cell in (
      All-contains (Contains es) (entries_where test es) e (All-filter passes (Contains es) es (All-contains_itself es)) held,
      All-contains (λ x. passes x ≡ true) (entries_where test es) e (filter_passes passes es) held,
    )

-- they have no cell of a light pair
pub heavy_entries : (test : CellId → Bool) (light heavy : Collection) (es : List Entry) → AreLayersBy test light heavy
    → HaveOtherCells (entries_where test es) light
heavy_entries test light heavy es layers e held holds =
    both_ways (test e.pair.cell) (ap test (sym holds.2) ∙ layers.light_fails holds.0 holds.1) (in_entries test es e held).1

-- one entry more
more : (test : CellId → Bool) (es : List Entry) (i : ℕ) (d : Entry) → i < length es
    → entries_where test (take (i + 1) es) ≡ entries_where test (take i es) ++ entries_where test (get_or es i d ∷ [])
more test es i d lt =
    let next : i + 1 ≡ suc i = omega arith in
    ap (λ n. entries_where test (take n es)) next ∙ ap (entries_where test) (take-suc es i d lt)
    ∙ filter-append (λ (e : Entry). test e.pair.cell) (take i es) (get_or es i d ∷ [])

pub one_passes : (test : CellId → Bool) (es own now : List Entry) (i : ℕ) (e : Entry) → own ≡ entries_where test (take i es) → i < length es
    → e ≡ get_or es i e → test e.pair.cell ≡ true → now ≡ own ++ e ∷ [] → now ≡ entries_where test (take (i + 1) es)
one_passes test es own now i e was lt is t put =
    put ∙ ap (λ xs. xs ++ e ∷ []) was ∙ ap (λ xs. entries_where test (take i es) ++ xs) (sym (cond-true _ (e ∷ []) [] t) ∙ ap (λ x. entries_where test (x ∷ [])) is)
    ∙ sym (more test es i e lt)

pub one_fails : (test : CellId → Bool) (es own : List Entry) (i : ℕ) (e : Entry) → own ≡ entries_where test (take i es) → i < length es
    → e ≡ get_or es i e → test e.pair.cell ≡ false → own ≡ entries_where test (take (i + 1) es)
one_fails test es own i e was lt is f =
    was ∙ sym (append-nil (entries_where test (take i es)))
    ∙ ap (λ xs. entries_where test (take i es) ++ xs) (sym (cond-false _ (e ∷ []) [] f) ∙ ap (λ x. entries_where test (x ∷ [])) is)
    ∙ sym (more test es i e lt)

-- ---- the change

-- the other entries have no cell of a pair that is heavy then
light_still : (test : CellId → Bool) (light heavy : Collection) (es : List Entry) → AreLayersBy test light heavy → IsCollection light
    → IsCollection heavy → HaveLightCells (entries_where (opposite test) es) (changed heavy (entries_where test es))
light_still test light heavy es layers c d e held holds =
    let is = (changed_layers test light heavy es layers c d).heavy_passes holds.0 holds.1 in
    let not = false_from_opposite test e.pair.cell (in_entries (opposite test) es e held).1 in
    both_ways (test e.pair.cell) not (ap test (sym holds.2) ∙ is)

-- the change, of the heavy entries and then of the others
pub by_layers : (test : CellId → Bool) (light heavy : Collection) (es : List Entry) → AreLayersBy test light heavy → IsCollection light
    → IsCollection heavy → IsChangeList es
    → changed (changed (joined_layers light heavy) (entries_where test es)) (entries_where (opposite test) es) ≡ changed (joined_layers light heavy) es
by_layers test light heavy es layers c d rise =
    let own = entries_where test es in
    let other = entries_where (opposite test) es in
    ap (λ hs. changed hs other)
    (heavy_layer light heavy own c d (layers_share_no_cell test light heavy layers) (entries_rise test 0 es rise)
    (heavy_entries test light heavy es layers))
    ∙ light_layer light (changed heavy own) other c (light_still test light heavy es layers c d)
    ∙ sym (changed_joined_layers test light heavy es layers c d rise)

-- the heavy pairs are few then, if all are
pub few_heavy : (test : CellId → Bool) (light heavy : Collection) (es : List Entry) → AreLayersBy test light heavy → IsCollection light
    → IsCollection heavy → IsChangeList es → length (changed (joined_layers light heavy) es) ≤ 1000000
    → length (changed heavy (entries_where test es)) ≤ 1000000
few_heavy test light heavy es layers c d rise within_limit =
    let own = changed heavy (entries_where test es) in
    let other = entries_where (opposite test) es in
    let both = ap (λ (hs : Collection). length hs) (changed_joined_layers test light heavy es layers c d rise) in
    let then = changed_layers test light heavy es layers c d in
    let sum = length_joined_layers (changed light other) own (changed_keeps light other c (entries_rise (opposite test) 0 es rise))
    (changed_keeps heavy (entries_where test es) d (entries_rise test 0 es rise))
    (cells_part_pairs (changed light other) own (layers_share_no_cell test (changed light other) own then)) in
    omega arith

-- and on the face, if all are
pub heavy_on_face : (face : ℕ) (test : CellId → Bool) (light heavy : Collection) (es : List Entry) → AreLayersBy test light heavy
    → IsCollection light → IsCollection heavy → IsChangeList es → AreOnFace face (changed (joined_layers light heavy) es)
    → AreOnFace face (changed heavy (entries_where test es))
heavy_on_face face test light heavy es layers c d rise on h is =
    let own = changed heavy (entries_where test es) in
    let other = entries_where (opposite test) es in
    let light_is = changed_keeps light other c (entries_rise (opposite test) 0 es rise) in
    let heavy_is = changed_keeps heavy (entries_where test es) d (entries_rise test 0 es rise) in
    on h (subst (λ (hs : Collection). Contains hs h) (sym (changed_joined_layers test light heavy es layers c d rise))
    (heavy_in_joined_layers (changed light other) own h light_is heavy_is is))

-- ---- the face then

-- other parts in the place of some of a face
pub put_light : (face : ℕ) (held : Collection) (ts made now : List SpanRanges) (heavy_places made_heavy_places now_heavy_places : List (Option HeavyPlace))
    (heavy same new : List Collection) (first end : ℕ) → IsFaceWith face held ts heavy_places first end made made_heavy_places same → same ≡ heavy → new ≡ heavy
    → now ≡ with_parts ts first end made → now_heavy_places ≡ take first heavy_places ++ (made_heavy_places ++ drop end heavy_places)
    → IsFaceLayered face new now now_heavy_places × (joined_layers (held_in now) (all_of new) ≡ held)
put_light face held ts made now heavy_places made_heavy_places now_heavy_places heavy same new first end is same_is new_is put put_heavy_places =
    let heavy_is : new ≡ same = new_is ∙ sym same_is in (
      subst (λ cs. IsFaceLayered face cs now now_heavy_places) (sym heavy_is)
          (subst (λ us. IsFaceLayered face same us now_heavy_places) (sym put)
          (subst (λ os. IsFaceLayered face same (with_parts ts first end made) os) (sym put_heavy_places) is.layered)),
      ap₂ (λ us cs. joined_layers (held_in us) (all_of cs)) put heavy_is ∙ is.pairs,
    )

-- the same of equal parts and places
pub with_same : (face : ℕ) (heavy : Collection) (es : List Entry) (us ts made : List SpanRanges) (other_heavy_places heavy_places made_heavy_places : List (Option HeavyPlace))
    (chunks : List Collection) (first end : ℕ)
    → IsFaceWith face (changed (joined_layers (held_in us) heavy) es) us other_heavy_places first end made made_heavy_places chunks → us ≡ ts → other_heavy_places ≡ heavy_places
    → IsFaceWith face (changed (joined_layers (held_in ts) heavy) es) ts heavy_places first end made made_heavy_places chunks
with_same face heavy es us ts made other_heavy_places heavy_places made_heavy_places chunks first end is same same_heavy_places =
    subst (λ os. IsFaceWith face (changed (joined_layers (held_in ts) heavy) es) ts os first end made made_heavy_places chunks) same_heavy_places
    (subst (λ xs. IsFaceWith face (changed (joined_layers (held_in xs) heavy) es) xs other_heavy_places first end made made_heavy_places chunks) same is)
