-- Regions of leaves against sets of numbers.
use Rattle.std.proofs.Common.{◌≡◌, ℕ, ◌<◌, ◌≤◌, ◌⊎◌, inl, inr, List, [], ◌∷◌, ◌++◌, arith, subst, sym}
use Rattle.s2id_core.specs.declared.cell_id.CellId.{CellId}
use Rattle.s2id_core.specs.CellId.{raw_of, first_of, end_of}
use Rattle.s2id_core.specs.Path.{Path, number_of}
use Rattle.s2id_core.specs.Leaves.{IsLeafPath}
use Rattle.s2id_core.specs.Span.{leaf_end}
use Rattle.s2id_core.proofs.Nested.{span, span_from_leaf, leaf_from_span}
use Rattle.std.proofs.lemmas.List.Elements.{Contains-append_left, Contains-push, Contains-push_cases}
use Rattle.s2id_union.specs.Region.{InRegion}
use Rattle.s2id_union.specs.Covers.{Covers}
use Rattle.s2id_union.specs.Loops.{InSpan}
use Rattle.s2id_core.proofs.Lists.{in_tail, none_in_nil}

pub region_from_covers : (cells : List CellId) (l : Path) → IsLeafPath l → Covers cells (number_of l) → InRegion cells l
region_from_covers cells l deep h =
    (h.held.0, h.cell, h.held.1, h.held.2, leaf_from_span l (raw_of h.cell) h.cell.valid deep h.from h.to)

pub covers_from_region : (cells : List CellId) (l : Path) → InRegion cells l → Covers cells (number_of l)
covers_from_region cells l i =
    let at = span_from_leaf l (raw_of i.1) i.1.valid i.4 in
    record { cell = i.1; held = (i.0, i.2, i.3); from = at.0; to = at.1 }

-- what is covered lies on the curve
pub covers_bounds : (cells : List CellId) (q : ℕ) → Covers cells q → (1 ≤ q) × (q < leaf_end)
covers_bounds cells q h =
    let s = span (raw_of h.cell) h.cell.valid in
    let a = s.begins in
    let b = s.ends in
    let c = h.from in
    let d = h.to in
    (omega arith, omega arith)

pub covers_nil : (q : ℕ) → Covers [] q → ⊥
covers_nil q h = none_in_nil h.cell h.held

-- one more cell
pub covers_tail : (c : CellId) (cells : List CellId) (q : ℕ) → Covers cells q → Covers (c ∷ cells) q
covers_tail c cells q h = record { cell = h.cell; held = in_tail c cells h.cell h.held; from = h.from; to = h.to }

pub covers_push_left : (cells : List CellId) (c : CellId) (q : ℕ) → Covers cells q → Covers (cells ++ c ∷ []) q
covers_push_left cells c q h =
    record { cell = h.cell; held = Contains-append_left cells (c ∷ []) h.cell h.held; from = h.from; to = h.to }

pub covers_push_right : (cells : List CellId) (c : CellId) (q : ℕ) → first_of c ≤ q → q < end_of c → Covers (cells ++ c ∷ []) q
covers_push_right cells c q from to =
    record { cell = c; held = Contains-push cells c; from = from; to = to }

pub covers_push_cases : (cells : List CellId) (c : CellId) (q : ℕ) → Covers (cells ++ c ∷ []) q
    → Covers cells q ⊎ InSpan (first_of c) (end_of c) q
covers_push_cases cells c q h =
    let from = h.from in
    let to = h.to in
    elim (Contains-push_cases cells c h.cell h.held) [
      | inl held ↦ inl (record { cell = h.cell; held = held; from = from; to = to })
      | inr e ↦ inr (in_span e from to)
    ]
  where
    in_span : {d : CellId} → c ≡ d → first_of d ≤ q → q < end_of d → InSpan (first_of c) (end_of c) q
    in_span {d} e from to = record {
      from = subst (λ (x : CellId). first_of x ≤ q) (sym e) from;
      to = subst (λ (x : CellId). q < end_of x) (sym e) to;
    }
