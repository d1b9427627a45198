-- A normal list is the shortest with its leaves.
use Rattle.std.proofs.Common.{◌≡◌, ◌≤◌, inl, inr, List, [], ◌∷◌, length, get_or, sym, arith, subst, AllPairs, Contains}
use Rattle.std.specs.List.{remove}
use Rattle.std.proofs.lemmas.List.Edits.{length-remove}
use Rattle.std.proofs.lemmas.List.Sorted.{Contains-permutation, IsPermutation-remove}
use Rattle.s2id_core.specs.declared.cell_id.CellId.{CellId}
use Rattle.s2id_core.specs.CellId.{raw_of, path_of, first_of, end_of}
use Rattle.s2id_core.specs.Path.{first_leaf}
use Rattle.s2id_core.specs.Span.{IsNested}
use Rattle.s2id_core.proofs.Lists.{head_pairs, tail_pairs, cons_cases, in_tail, at_head}
use Rattle.s2id_core.proofs.Nested.{span, nested_from_within, within_from_nested}
use Rattle.s2id_core.proofs.Numbers.{path_of_cell}
use Rattle.s2id_core.proofs.Spans.{leaf_of_first, nested_from_overlap}
use Rattle.s2id_union.specs.Region.{IsNormal, HaveSameRegion}
use Rattle.s2id_union.proofs.Searching.{follow_from_normal}
use Rattle.s2id_union.proofs.Unique.{around_from_all, in_region_of}

-- some element of a list stands in a relation to x
record HasPartner {X Y : Type 0} (R : X → Y → Type 0) (ys : List Y) (x : X) : Type 0 where
  partner : Y
  held : Contains ys partner
  related : R x partner

-- each of the xs has a partner among the ys, and no two of them share one: so there are as many ys, or more
as_many : {X Y : Type 0} (R : X → Y → Type 0) (xs : List X) (ys : List Y) → AllPairs (λ a b. (y : Y) → R a y → R b y → ⊥) xs
    → ((x : X) → Contains xs x → HasPartner R ys x) → length xs ≤ length ys
as_many R [] ys apart each = omega arith
as_many {X} {Y} R (x ∷ xs) ys apart each =
    let Apart : X → X → Type 0 = λ a b. (y : Y) → R a y → R b y → ⊥ in
    let own = each x (at_head x xs) in
    let y = own.partner in
    let i = own.held.0 in
    let moved = IsPermutation-remove ys i y own.held.1 (sym own.held.2) in
    let one_less = length-remove ys i own.held.1 in
    let others = as_many R xs (remove ys i) (tail_pairs Apart x xs apart) (λ z c.
    let of_z = each z (in_tail x xs z c) in
    elim (cons_cases y (remove ys i) of_z.partner (Contains-permutation ys (y ∷ remove ys i) of_z.partner moved of_z.held)) [
      | inl same ↦ absurd (head_pairs Apart x xs apart z c y own.related (subst (R z) (sym same) of_z.related))
      | inr left ↦ record { partner = of_z.partner; held = left; related = of_z.related }
    ]) in
    omega arith

-- the second cell lies within the first
abbrev Holds : CellId → CellId → Type 0
Holds a b = IsNested (raw_of b) (raw_of a)

-- a cell of a normal list holds a cell of each list with the same leaves
holds_one : (xs ys : List CellId) → IsNormal xs → HaveSameRegion xs ys → (x : CellId) → Contains xs x → HasPartner Holds ys x
holds_one xs ys normal same x held =
    let path = path_of_cell (raw_of x) x.valid in
    let leaf = leaf_of_first (path_of x) path in
    let there = (same (first_leaf (path_of x)) leaf.deep).0 (in_region_of xs x held (first_leaf (path_of x)) leaf) in
    let y = there.1 in
    let held_y : Contains ys y = (there.0, there.2, there.3) in
    let path_y = path_of_cell (raw_of y) y.valid in
    elim (nested_from_overlap (path_of y) (path_of x) path_y path (first_leaf (path_of x), there.4, leaf)) [
      | inl inner ↦
          record { partner = y; held = held_y; related = nested_from_within (raw_of y) (raw_of x) y.valid x.valid inner }
      | inr outer ↦
          (let around = around_from_all xs normal (path_of y) path_y (λ l i. (same l i.deep).1 (in_region_of ys y held_y l i)) in
          let z = around.1 in
          let y_z = nested_from_within (raw_of y) (raw_of z) y.valid z.valid around.4 in
          let x_y = nested_from_within (raw_of x) (raw_of y) x.valid y.valid outer in
          let x_z : IsNested (raw_of x) (raw_of z) = record { from = omega arith; to = omega arith } in
          let one : x ≡ z = normal.apart x z held (around.0, around.2, around.3) (within_from_nested (raw_of x) (raw_of z) x.valid z.valid x_z) in
          record { partner = y; held = held_y; related = subst (λ (c : CellId). Holds c y) (sym one) y_z })
    ]

-- no cell lies within two that follow one another
none_in_both : (a b : CellId) → end_of a ≤ first_of b → (y : CellId) → Holds a y → Holds b y → ⊥
none_in_both a b follow y in_a in_b =
    let s = span (raw_of y) y.valid in
    let from = s.from in
    let to = s.to in
    let ends = in_a.to in
    let begins = in_b.from in
    omega arith

pub shortest : (xs ys : List CellId) → IsNormal xs → HaveSameRegion xs ys → length xs ≤ length ys
shortest xs ys normal same =
    as_many Holds xs ys (λ i j d lt l. none_in_both (get_or xs i d) (get_or xs j d) (follow_from_normal xs normal i j d lt l)) (holds_one xs ys normal same)
