-- Cells that go over parts, and cells that lie within one.
use Rattle.std.proofs.Common.{◌≡◌, Option, subst, ◌||◌, ◌&&◌, nat_lt, ℕ, zero, suc, ◌+◌, ◌<◌, ◌≤◌, inl, inr, Bool, false, List, [], ◌∷◌, length, refl, sym, ap, ap₂, ◌∙◌, arith, Contains}
use Rattle.std.proofs.lemmas.Bool.{cases_lt, le-ltb, lt-ltb}
use Rattle.std.proofs.lemmas.List.Elements.{Contains-append_cases}
use Rattle.s2id_core.specs.CellId.{raw_of, first_of, end_of}
use Rattle.s2id_core.specs.declared.cell_id.CellId.{CellId}
use Rattle.s2id_core.proofs.Lists.{none_in_nil}
use Rattle.s2ix_bag_lists.specs.Faces.{all_of}
use Rattle.s2ix_bag_pairs.specs.Change.{IsChangeList, changed}
use Rattle.s2ix_bag_pairs.specs.Collection.{Collection}
use Rattle.s2ix_bag_pairs.specs.declared.pair.Entry.{Entry}
use Rattle.s2ix_bag_pairs.specs.declared.pair.Held.{Held}
use Rattle.s2ix_table_spans.specs.Blocks.{HoldsCell}
use Rattle.s2ix_table_spans.specs.SpanTable.{SpanRanges}
use Rattle.s2ix_table_heavy.specs.declared.heavy_place.HeavyPlace.{HeavyPlace}
use Rattle.s2ix_table_parts.specs.FaceSpans.{AreOnFace, face_begin, no_table, table_of}
use Rattle.s2ix_table_parts.specs.Neighbours.{AreNeighbours, held_in}
use Rattle.s2ix_table_parts.specs.Layered.{HaveOtherCells, IsFaceLayered, IsFaceWith, goes_over, is_cut}
use Rattle.s2ix_table_parts.specs.Layers.{AreLayersBy, ShareNoCell, entries_where, opposite, holds_cell, joined_layers}
use Rattle.s2ix_table_parts.proofs.Cuts.{cut, cut_is, cut_rises}
use Rattle.s2ix_table_parts.proofs.FaceWith.{all_gave_way, length_heavy_places}
use Rattle.s2ix_table_parts.proofs.HeavyFirst.{by_layers, few_heavy, heavy_entries, heavy_on_face, holds_found, not_found}
use Rattle.s2ix_table_parts.proofs.HeldWhere.{entries_rise}
use Rattle.s2ix_table_parts.proofs.Neighbours.{all_begin, all_rise}
use Rattle.s2ix_table_parts.proofs.UnderParts.{end_is}

-- ---- a place within a cell

cut_before : (a b n : ℕ) → n ≤ a → nat_lt a n && nat_lt n b ≡ false
cut_before a b n le = ap (λ x. x && nat_lt n b) (le-ltb a n le)

cut_after : (a b n : ℕ) → b ≤ n → nat_lt a n && nat_lt n b ≡ false
cut_after a b n le = elim (cases_lt a n) [
  | inl lt ↦ ap₂ (λ x y. x && y) (lt-ltb a n lt) (le-ltb n b le)
  | inr ge ↦ ap (λ x. x && nat_lt n b) (le-ltb a n ge)
]

both_false : (a b : Bool) → a ≡ false → b ≡ false → a || b ≡ false
both_false a b f g = ap₂ (λ x y. x || y) f g

-- ---- parts

-- no part begins within a cell before all of them
cut_by_none : (from : ℕ) (ts : List SpanRanges) (to : ℕ) (cell : CellId) → AreNeighbours from ts to → end_of cell ≤ from
    → is_cut ts cell ≡ false
cut_by_none from [] to cell are le = refl
cut_by_none from (t ∷ ts) to cell are le =
    let e = are.0 in
    let some = are.1.within.some in
    both_false _ (is_cut ts cell) (cut_after (first_of cell) (end_of cell) t.from (omega arith)) (cut_by_none t.to ts to cell are.2 (omega arith))

-- nor within one that lies within a part
pub uncut : (k from : ℕ) (ts : List SpanRanges) (to : ℕ) (cell : CellId) → AreNeighbours from ts to → k < length ts
    → cut k from ts ≤ first_of cell → end_of cell ≤ cut (suc k) from ts → is_cut ts cell ≡ false
uncut k from [] to cell are lt le ge = absurd (omega arith)
uncut zero from (t ∷ ts) to cell are lt le ge =
    let e = are.0 in
    both_false _ (is_cut ts cell) (cut_before (first_of cell) (end_of cell) t.from (omega arith)) (cut_by_none t.to ts to cell are.2 ge)
uncut (suc k) from (t ∷ ts) to cell are lt le ge =
    let e = are.0 in
    let some = are.1.within.some in
    let rises = cut_rises 0 k t.to ts to are.2 (omega arith) (omega arith) in
    let here : cut k t.to ts ≤ first_of cell = le in
    both_false _ (is_cut ts cell) (cut_before (first_of cell) (end_of cell) t.from (omega arith))
    (uncut k t.to ts to cell are.2 (omega arith) le ge)

-- a light pair's cell is cut by no part
light_uncut : (from : ℕ) (ts : List SpanRanges) (to : ℕ) (h : Held) → AreNeighbours from ts to → Contains (held_in ts) h
    → is_cut ts h.pair.cell ≡ false
light_uncut from [] to h are held = absurd (none_in_nil h held)
light_uncut from (t ∷ ts) to h are held =
    let cell = h.pair.cell in
    let within = are.1.within in
    let some = within.some in
    elim (Contains-append_cases t.held (held_in ts) h held) [
      | inl own ↦
          (let begin = within.begins h own in
          both_false _ (is_cut ts cell) (cut_before (first_of cell) (end_of cell) t.from begin) (cut_by_none t.to ts to cell are.2 (within.ends h own)))
      | inr later ↦
          (let begin = all_begin t.to ts to are.2 h later in
          both_false _ (is_cut ts cell) (cut_before (first_of cell) (end_of cell) t.from (omega arith)) (light_uncut t.to ts to h are.2 later))
    ]

-- ---- the test

-- heavy pairs have cells that go over the parts, light pairs none
pub over_layers : (from : ℕ) (ts : List SpanRanges) (to : ℕ) (heavy : Collection) → AreNeighbours from ts to → ShareNoCell (held_in ts) heavy
    → AreLayersBy (goes_over ts heavy) (held_in ts) heavy
over_layers from ts to heavy are apart = record {
  light_fails = λ l in_light. both_false (holds_cell heavy l.pair.cell) (is_cut ts l.pair.cell)
      (not_found heavy l.pair.cell (λ holds. apart l holds.0 in_light holds.1 (ap raw_of (sym holds.2))))
      (light_uncut from ts to l are in_light);
  heavy_passes = λ h in_heavy. ap (λ b. b || is_cut ts h.pair.cell) (holds_found heavy h.pair.cell (h, in_heavy, refl));
}

-- a cell without heavy pairs that lies within a part
pub over_none : (face : ℕ) (ts : List SpanRanges) (heavy : Collection) (cell : CellId) (part begin next last : ℕ) → (HoldsCell heavy cell → ⊥)
    → AreNeighbours (face_begin face) ts (face_begin (face + 1)) → part < length ts → begin ≡ (table_of ts part).from
    → (part + 1 < length ts → next ≡ (table_of ts (part + 1)).from) → (part + 1 ≡ length ts → next ≡ last) → last ≡ face_begin (face + 1)
    → begin ≤ first_of cell → end_of cell ≤ next → false ≡ goes_over ts heavy cell
over_none face ts heavy cell part begin next last none are lt begins is is_last same le ge =
    let from = face_begin face in
    let to = face_begin (face + 1) in
    let first : begin ≡ cut part from ts = begins ∙ cut_is part from ts to no_table are lt in
    let end : next ≡ cut (suc part) from ts = end_is part from next ts to are lt is (λ all. is_last all ∙ same) in
    sym (both_false (holds_cell heavy cell) (is_cut ts cell) (not_found heavy cell none)
    (uncut part from ts to cell are lt (omega arith) (omega arith)))

-- ---- a change

-- the entries that go over the parts
abbrev pub over_entries : List SpanRanges → List Collection → List Entry → List Entry
over_entries ts heavy es = entries_where (goes_over ts (all_of heavy)) es

-- and the others
abbrev pub other_entries : List SpanRanges → List Collection → List Entry → List Entry
other_entries ts heavy es = entries_where (opposite (goes_over ts (all_of heavy))) es

face_layers : (face : ℕ) (ts : List SpanRanges) (heavy_places : List (Option HeavyPlace)) (heavy : List Collection) → IsFaceLayered face heavy ts heavy_places
    → AreLayersBy (goes_over ts (all_of heavy)) (held_in ts) (all_of heavy)
face_layers face ts heavy_places heavy was = over_layers (face_begin face) ts (face_begin (face + 1)) (all_of heavy) was.neighbours was.apart

-- what holds of entries that go over the parts of a face
pub record AreOver (face : ℕ) (ts : List SpanRanges) (heavy : List Collection) (own : List Entry) : Type 0 where
  pub rise : IsChangeList own
  pub apart : HaveOtherCells own (held_in ts)
  pub on_face : AreOnFace face (changed (all_of heavy) own)
  pub within_limit : length (changed (all_of heavy) own) ≤ 1000000

pub are_over : (face : ℕ) (ts : List SpanRanges) (heavy_places : List (Option HeavyPlace)) (heavy : List Collection) (es own : List Entry)
    → IsFaceLayered face heavy ts heavy_places → IsChangeList es → AreOnFace face (changed (joined_layers (held_in ts) (all_of heavy)) es)
    → length (changed (joined_layers (held_in ts) (all_of heavy)) es) ≤ 1000000 → own ≡ over_entries ts heavy es → AreOver face ts heavy own
are_over face ts heavy_places heavy es own was rise on_face within_limit is =
    let test = goes_over ts (all_of heavy) in
    let layers = face_layers face ts heavy_places heavy was in
    let c = all_rise (face_begin face) ts (face_begin (face + 1)) was.neighbours in
    let d = was.are_chunks.rises in
    subst (AreOver face ts heavy) (sym is) (record {
      rise = entries_rise test 0 es rise;
      apart = heavy_entries test (held_in ts) (all_of heavy) es layers;
      on_face = heavy_on_face face test (held_in ts) (all_of heavy) es layers c d rise on_face;
      within_limit = few_heavy test (held_in ts) (all_of heavy) es layers c d rise within_limit;
    })

-- the face after them, and what the others make of it
pub over_first : (face : ℕ) (ts shown : List SpanRanges) (heavy_places now_heavy_places : List (Option HeavyPlace)) (heavy now : List Collection)
    (es own other : List Entry) (first end : ℕ) → IsFaceLayered face heavy ts heavy_places → IsChangeList es → own ≡ over_entries ts heavy es
    → other ≡ other_entries ts heavy es → first ≡ 0 → end ≡ length ts
    → IsFaceWith face (changed (joined_layers (held_in ts) (all_of heavy)) own) ts heavy_places first end shown now_heavy_places now
    → IsFaceLayered face now shown now_heavy_places
    × (changed (joined_layers (held_in shown) (all_of now)) other ≡ changed (joined_layers (held_in ts) (all_of heavy)) es)
over_first face ts shown heavy_places now_heavy_places heavy now es own other first end was rise is rest none last with =
    let test = goes_over ts (all_of heavy) in
    let layers = face_layers face ts heavy_places heavy was in
    let light : Collection = held_in ts in
    let c = all_rise (face_begin face) ts (face_begin (face + 1)) was.neighbours in
    let there = all_gave_way face (length ts) first end (changed (joined_layers light (all_of heavy)) own) ts shown heavy_places now_heavy_places now none last refl
    (length_heavy_places heavy ts heavy_places was.are_heavy_places) with in (
      there.0,
      ap (λ hs. changed hs other) (there.1 ∙ ap (changed (joined_layers light (all_of heavy))) is)
          ∙ ap (changed (changed (joined_layers light (all_of heavy)) (entries_where test es))) rest
          ∙ by_layers test light (all_of heavy) es layers c was.are_chunks.rises rise,
    )
