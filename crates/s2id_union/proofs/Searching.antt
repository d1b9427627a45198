-- The one cell of a normal list that can hold a place.
use Rattle.std.proofs.Common.{◌≡◌, ℕ, ◌+◌, ◌<◌, ◌≤◌, inl, inr, List, length, get_or, sym, ◌∙◌, ap, arith, subst, Contains}
use Rattle.std.proofs.lemmas.Bool.{cases_lt}
use Rattle.std.proofs.lemmas.List.{get_or_default}
use Rattle.std.proofs.lemmas.List.Elements.{Contains-get_or}
use Rattle.s2id_core.specs.declared.cell_id.CellId.{CellId}
use Rattle.s2id_core.specs.CellId.{raw_of, path_of, first_of, end_of}
use Rattle.s2id_core.specs.Span.{IsNested}
use Rattle.s2id_core.proofs.Numbers.{path_of_cell}
use Rattle.s2id_core.proofs.Spans.{leaves_iff_within}
use Rattle.s2id_core.proofs.Nested.{span, span_from_leaf, nested_from_within, within_from_nested, nested_from_crossing_spans}
use Rattle.s2id_union.specs.Region.{IsNormal, HasAllOf, Meets}
use Rattle.s2id_union.specs.Covers.{FollowOneAnother}
use Rattle.s2id_union.specs.Loops.{IsAhead}
use Rattle.s2id_union.proofs.Unique.{around_from_all}

-- the cells of a normal list stand one after the other
pub follow_from_normal : (cells : List CellId) → IsNormal cells → FollowOneAnother cells
follow_from_normal cells h i j d lt l =
    let a = get_or cells i d in
    let b = get_or cells j d in
    let rise = h.rises i j d lt l in
    let held_a = Contains-get_or cells i d (omega arith) in
    let held_b = Contains-get_or cells j d l in
    let sa = span (raw_of a) a.valid in
    let sb = span (raw_of b) b.valid in
    let a1 = sa.from in
    let b1 = sb.from in
    let b2 = sb.to in
    elim (cases_lt (first_of b) (end_of a)) [
      | inr apart ↦ apart
      | inl cross ↦
          elim (nested_from_crossing_spans (raw_of a) (raw_of b) a.valid b.valid (omega arith) cross) [
            | inl n ↦
                absurd (let e = ap (λ (c : CellId). raw_of c) (h.apart a b held_a held_b (within_from_nested (raw_of a) (raw_of b) a.valid b.valid n)) in omega arith)
            | inr n ↦
                absurd (let e = ap (λ (c : CellId). raw_of c) (h.apart b a held_b held_a (within_from_nested (raw_of b) (raw_of a) b.valid a.valid n)) in omega arith)
          ]
    ]

-- ends rise
pub ends_rise : (cells : List CellId) → FollowOneAnother cells → (i j : ℕ) (d : CellId) → i ≤ j → j < length cells
    → end_of (get_or cells i d) ≤ end_of (get_or cells j d)
ends_rise cells follow i j d le l =
    elim (cases_lt i j) [
      | inl lt ↦
          (let c = follow i j d lt l in
          let s = span (raw_of (get_or cells j d)) (get_or cells j d).valid in
          let a = s.from in
          let b = s.to in
          omega arith)
      | inr ge ↦ let e = ap (λ k. end_of (get_or cells k d)) (let f : i ≡ j = omega arith in f) in omega arith
    ]

-- the same by a cell of the list
pub ends_from : (cells : List CellId) → FollowOneAnother cells → (k : ℕ) (x : CellId) → k < length cells → x ≡ get_or cells k x
    → (j : ℕ) (d : CellId) → k ≤ j → j < length cells → end_of x ≤ end_of (get_or cells j d)
ends_from cells follow k x l is j d le within =
    let e = ap (λ (c : CellId). end_of c) (is ∙ get_or_default cells k x d l) in
    let r = ends_rise cells follow k j d le within in
    omega arith

pub ends_to : (cells : List CellId) → FollowOneAnother cells → (k : ℕ) (x : CellId) → k < length cells → x ≡ get_or cells k x
    → (j : ℕ) (d : CellId) → j < k + 1 → j < length cells → end_of (get_or cells j d) ≤ end_of x
ends_to cells follow k x l is j d lt within =
    let e = ap (λ (c : CellId). end_of c) (is ∙ get_or_default cells k x d l) in
    let r = ends_rise cells follow j k d (omega arith) l in
    omega arith

pub ahead_start : (cells : List CellId) (at : ℕ) → ((j : ℕ) (d : CellId) → 0 ≤ j → j < length cells → at < end_of (get_or cells j d))
    → IsAhead cells 0 at
ahead_start cells at h = record { passed = λ j d lt l. absurd (omega arith); ahead = h }

-- a cell that begins at the place and lies within one of the list lies within the first that is not passed
pub at_ahead : (cells : List CellId) → FollowOneAnother cells → (k at : ℕ) → IsAhead cells k at → (j : ℕ) (d : CellId) → j < length cells
    → first_of (get_or cells j d) ≤ at → at < end_of (get_or cells j d) → j ≡ k
at_ahead cells follow k at h j d l from to =
    elim (cases_lt j k) [
      | inl lt ↦ absurd (let p = h.passed j d lt l in omega arith)
      | inr ge ↦
          elim (cases_lt k j) [
            | inl gt ↦ absurd (let c = follow k j d gt l in let a = h.ahead k d (omega arith) (omega arith) in omega arith)
            | inr le ↦ omega arith
          ]
    ]

-- what lies within a cell of the list
pub all_from_within : (cells : List CellId) (x cell : CellId) → Contains cells x → IsNested (raw_of cell) (raw_of x)
    → HasAllOf cells (path_of cell)
all_from_within cells x cell held nest l i =
    let w = within_from_nested (raw_of cell) (raw_of x) cell.valid x.valid nest in
    let leaves = (leaves_iff_within (path_of cell) (path_of x) (path_of_cell (raw_of cell) cell.valid) (path_of_cell (raw_of x) x.valid)).1 w in
    (held.0, x, held.1, held.2, leaves l i)

-- a cell whose leaves are all in the region lies within the first cell that is not passed
pub within_ahead : (cells : List CellId) → IsNormal cells → (k at : ℕ) (cell : CellId) → at ≡ first_of cell → IsAhead cells k at
    → HasAllOf cells (path_of cell) → (k < length cells) × ((x : CellId) → x ≡ get_or cells k x → IsNested (raw_of cell) (raw_of x))
within_ahead cells normal k at cell begins h all =
    let a = around_from_all cells normal (path_of cell) (path_of_cell (raw_of cell) cell.valid) all in
    let y = a.1 in
    let nest = nested_from_within (raw_of cell) (raw_of y) cell.valid y.valid a.4 in
    let n1 = nest.from in
    let n2 = nest.to in
    let s = span (raw_of cell) cell.valid in
    let s1 = s.from in
    let s2 = s.to in
    let f = ap (λ (c : CellId). first_of c) a.3 in
    let e = ap (λ (c : CellId). end_of c) a.3 in
    let same : a.0 ≡ k = at_ahead cells (follow_from_normal cells normal) k at h a.0 y a.2 (omega arith) (omega arith) in
    let short = a.2 in
    let here : k < length cells = omega arith in (
      here,
      λ x is.
          let to_y : x ≡ y = is ∙ get_or_default cells k x y here ∙ ap (λ i. get_or cells i y) (sym same) ∙ a.3 in
          subst (λ (z : CellId). IsNested (raw_of cell) (raw_of z)) (sym to_y) nest,
    )

-- a cell that shares a leaf with the region shares it with the first cell that is not passed
pub meets_ahead : (cells : List CellId) → IsNormal cells → (k at : ℕ) (cell : CellId) → at ≡ first_of cell → IsAhead cells k at
    → Meets cells (path_of cell)
    → (k < length cells) × ((x : CellId) → x ≡ get_or cells k x → (first_of x < end_of cell) × (first_of cell < end_of x))
meets_ahead cells normal k at cell begins h m =
    let leaf = m.0 in
    let in_cell = m.1 in
    let j = m.2.0 in
    let y = m.2.1 in
    let l = m.2.2 in
    let at_y = m.2.3 in
    let in_y = m.2.4 in
    let c = span_from_leaf leaf (raw_of cell) cell.valid in_cell in
    let v = span_from_leaf leaf (raw_of y) y.valid in_y in
    let c1 = c.0 in
    let c2 = c.1 in
    let v1 = v.0 in
    let v2 = v.1 in
    let f = ap (λ (c : CellId). first_of c) at_y in
    let e = ap (λ (c : CellId). end_of c) at_y in
    let ge : k ≤ j = elim (cases_lt j k) [ inl lt ↦ absurd (let p = h.passed j y lt l in omega arith) | inr ge ↦ ge ] in
    let here : k < length cells = omega arith in
    let first_le : first_of (get_or cells k y) ≤ first_of (get_or cells j y) = elim (cases_lt k j) [
      | inl lt ↦
          (let follow = follow_from_normal cells normal k j y lt l in
          let s = span (raw_of (get_or cells k y)) (get_or cells k y).valid in
          let a = s.from in
          let b = s.to in
          omega arith)
      | inr le ↦ let e = ap (λ i. first_of (get_or cells i y)) (let f : k ≡ j = omega arith in f) in omega arith
    ] in (
      here,
      λ x is.
          let to_k : x ≡ get_or cells k y = is ∙ get_or_default cells k x y here in
          let fx = ap (λ (c : CellId). first_of c) to_k in
          let ex = ap (λ (c : CellId). end_of c) to_k in
          let a = h.ahead k y (omega arith) here in
          (omega arith, omega arith),
    )
