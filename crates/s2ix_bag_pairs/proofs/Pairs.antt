-- Pairs with equal ranks are equal.
use Rattle.std.proofs.Common.{◌≡◌, ℕ, ◌+◌, ◌*◌, ◌<◌, ◌≤◌, ◌↔◌, ◌⊎◌, inl, inr, ⊎_elim, ap, ap₂, subst, arith}
use Rattle.std.proofs.lemmas.Bool.{cases_lt}
use denote.Struct.Props.{props}
use Rattle.s2id_core.proofs.Cells.{same_cell}
use Rattle.s2id_core.specs.CellId.{raw_of}
use Rattle.s2id_core.specs.declared.cell_id.CellId.{CellId}
use Rattle.s2ix_bag_pairs.specs.Label.{value_of}
use Rattle.s2ix_bag_pairs.specs.Laws.{ComesBefore}
use Rattle.s2ix_bag_pairs.specs.Pair.{rank_of}
use Rattle.s2ix_bag_pairs.specs.declared.label.Label.{Label}
use Rattle.s2ix_bag_pairs.specs.declared.pair.Pair.{Pair}
use Rattle.s2ix_bag_pairs.specs.declared.pair.Held.{Held}

in_range-prop : (n : ℕ) → IsProp (n ≤ 2147483647)
in_range-prop n = hlevel props

-- labels with equal numbers are equal
pub same_label : (l m : Label) → value_of l ≡ value_of m → l ≡ m
same_label l m e =
    let Same : ℕ → Type 0 = λ n. (r : n ≤ 2147483647) → l ≡ record { value = n; in_range = r } in
    let at_own : Same (value_of l) =
    λ r. ap (λ (q : value_of l ≤ 2147483647). let made : Label = record { value = value_of l; in_range = q } in made)
    (in_range-prop (value_of l) l.in_range r) in
    subst Same e at_own m.in_range

rank_parts : (a b v w : ℕ) → v ≤ 2147483647 → w ≤ 2147483647 → a * 2147483648 + v ≡ b * 2147483648 + w → (a ≡ b) × (v ≡ w)
rank_parts a b v w v_small w_small e = (omega arith, omega arith)

-- pairs with equal ranks are equal
pub same_pair : (p q : Pair) → rank_of p ≡ rank_of q → p ≡ q
same_pair p q e =
    let parts = rank_parts (raw_of p.cell) (raw_of q.cell) (value_of p.label) (value_of q.label) p.label.in_range q.label.in_range e in
    ap₂ (λ (c : CellId) (l : Label). let made : Pair = record { cell = c; label = l } in made) (same_cell p.cell q.cell parts.0)
    (same_label p.label q.label parts.1)

-- held pairs with equal ranks and equal counts are equal
pub same_held : (h k : Held) → rank_of h.pair ≡ rank_of k.pair → h.count ≡ k.count → h ≡ k
same_held h k ranks counts =
    ap₂ (λ (p : Pair) (n : ℕ). let made : Held = record { pair = p; count = n } in made) (same_pair h.pair k.pair ranks) counts

-- ---- the order of pairs

parts_from_less : (a b v w : ℕ) → w ≤ 2147483647 → a * 2147483648 + v < b * 2147483648 + w → (a < b) ⊎ ((a ≡ b) × (v < w))
parts_from_less a b v w w_small lt =
    ⊎_elim (λ less. inl less)
    (λ le. let same : a ≡ b = omega arith in inr (same, omega arith))
    (cases_lt a b)

less_from_parts : (a b v w : ℕ) → v ≤ 2147483647 → (a < b) ⊎ ((a ≡ b) × (v < w)) → a * 2147483648 + v < b * 2147483648 + w
less_from_parts a b v w v_small order = ⊎_elim (λ less. omega arith) (λ tie. omega (arith, tie.0, tie.1)) order

-- ranks order pairs by cell, then by label
pub rank_order : (p q : Pair) → (rank_of p < rank_of q) ↔ ComesBefore p q
rank_order p q = (
  λ lt. parts_from_less (raw_of p.cell) (raw_of q.cell) (value_of p.label) (value_of q.label) q.label.in_range lt,
  λ order. less_from_parts (raw_of p.cell) (raw_of q.cell) (value_of p.label) (value_of q.label) p.label.in_range order,
)
