-- A list that is made of spans, as a set of leaves.
use Rattle.std.proofs.Common.{◌≡◌, ◌↔◌, ℕ, ◌+◌, ◌<◌, ◌≤◌, ◌⊎◌, inl, inr, List, [], subst}
use Rattle.s2id_core.specs.declared.cell_id.CellId.{CellId}
use Rattle.s2id_core.specs.Path.{Path, number_of}
use Rattle.s2id_core.specs.Leaves.{IsLeafPath}
use Rattle.s2id_union.specs.Region.{InRegion, IsNormal}
use Rattle.s2id_union.specs.Covers.{Covers}
use Rattle.s2id_union.specs.Loops.{IsAdded}
use Rattle.s2id_union.specs.declared.sweep.Operation.{Operation}
use Rattle.s2id_union.specs.declared.sweep.Operation.TheVariants.{Union, Difference}
use Rattle.s2id_union.specs.Operation.{Keeps}
use Rattle.s2id_union.proofs.Sweeping.{keeps_same}
use Rattle.s2id_union.proofs.Covering.{region_from_covers, covers_from_region, covers_nil}
use Rattle.s2id_union.proofs.Normal.{normal_from_maximal}

pub normal_from_added : (old cells : List CellId) (start limit : ℕ) → IsAdded old cells start limit → IsNormal cells
normal_from_added old cells start limit h = normal_from_maximal cells (limit + 1) h.maximal

pub span_leaves : (old cells : List CellId) (start limit : ℕ) → old ≡ [] → IsAdded old cells start limit → (leaf : Path) → IsLeafPath leaf
    → InRegion cells leaf ↔ ((start ≤ number_of leaf) × (number_of leaf < limit))
span_leaves old cells start limit none h leaf deep = (
  λ i. elim ((h.covers (number_of leaf)).0 (covers_from_region cells leaf i)) [
    | inl c ↦ absurd (covers_nil (number_of leaf) (subst (λ xs. Covers xs (number_of leaf)) none c))
    | inr r ↦ (r.from, r.to)
  ],
  λ b. region_from_covers cells leaf deep ((h.covers (number_of leaf)).1 (inr (record { from = b.0; to = b.1 }))),
)

-- lists that cover the same numbers have the same leaves
pub same_leaves : (xs ys : List CellId) → ((q : ℕ) → Covers xs q ↔ Covers ys q) → (leaf : Path) → IsLeafPath leaf
    → InRegion xs leaf ↔ InRegion ys leaf
same_leaves xs ys h leaf deep = (
  λ i. region_from_covers ys leaf deep ((h (number_of leaf)).0 (covers_from_region xs leaf i)),
  λ i. region_from_covers xs leaf deep ((h (number_of leaf)).1 (covers_from_region ys leaf i)),
)

-- the set operations, on leaves
union_or : (o : Operation) (xs ys cells : List CellId) → ((q : ℕ) → Covers cells q ↔ Keeps o (Covers xs q) (Covers ys q)) → (leaf : Path)
    → IsLeafPath leaf → InRegion cells leaf ↔ Keeps o (InRegion xs leaf) (InRegion ys leaf)
union_or o xs ys cells h leaf deep =
    let q = number_of leaf in (
      λ i. keeps_same o (region_from_covers xs leaf deep, covers_from_region xs leaf) (region_from_covers ys leaf deep, covers_from_region ys leaf) ((h q).0 (covers_from_region cells leaf i)),
      λ k. region_from_covers cells leaf deep ((h q).1 (keeps_same o (covers_from_region xs leaf, region_from_covers xs leaf deep) (covers_from_region ys leaf, region_from_covers ys leaf deep) k)),
    )

pub union_leaves : (as_first as_second xs ys cells : List CellId) → xs ≡ as_first → ys ≡ as_second
    → ((q : ℕ) → Covers cells q ↔ Keeps Union (Covers xs q) (Covers ys q)) → (leaf : Path) → IsLeafPath leaf
    → InRegion cells leaf ↔ (InRegion as_first leaf ⊎ InRegion as_second leaf)
union_leaves as_first as_second xs ys cells e f h leaf deep =
    subst (λ x. InRegion cells leaf ↔ Keeps Union (InRegion x leaf) (InRegion as_second leaf)) e (subst (λ y. InRegion cells leaf ↔ Keeps Union (InRegion xs leaf) (InRegion y leaf)) f (union_or Union xs ys cells h leaf deep))

both_leaves : (xs ys cells : List CellId) → ((q : ℕ) → Covers cells q ↔ (Covers xs q × Covers ys q)) → (leaf : Path) → IsLeafPath leaf
    → InRegion cells leaf ↔ (InRegion xs leaf × InRegion ys leaf)
both_leaves xs ys cells h leaf deep =
    let q = number_of leaf in (
      λ i.
          let both = (h q).0 (covers_from_region cells leaf i) in
          (region_from_covers xs leaf deep both.0, region_from_covers ys leaf deep both.1),
      λ both. region_from_covers cells leaf deep ((h q).1 (covers_from_region xs leaf both.0, covers_from_region ys leaf both.1)),
    )

pub shared_leaves : (as_first as_second xs ys cells : List CellId) → xs ≡ as_first → ys ≡ as_second
    → ((q : ℕ) → Covers cells q ↔ (Covers xs q × Covers ys q)) → (leaf : Path) → IsLeafPath leaf
    → InRegion cells leaf ↔ (InRegion as_first leaf × InRegion as_second leaf)
shared_leaves as_first as_second xs ys cells e f h leaf deep =
    subst (λ x. InRegion cells leaf ↔ (InRegion x leaf × InRegion as_second leaf)) e (subst (λ y. InRegion cells leaf ↔ (InRegion xs leaf × InRegion y leaf)) f (both_leaves xs ys cells h leaf deep))

pub difference_leaves : (as_first as_second xs ys cells : List CellId) → xs ≡ as_first → ys ≡ as_second
    → ((q : ℕ) → Covers cells q ↔ Keeps Difference (Covers xs q) (Covers ys q)) → (leaf : Path) → IsLeafPath leaf
    → InRegion cells leaf ↔ (InRegion as_first leaf × (InRegion as_second leaf → ⊥))
difference_leaves as_first as_second xs ys cells e f h leaf deep =
    subst (λ x. InRegion cells leaf ↔ Keeps Difference (InRegion x leaf) (InRegion as_second leaf)) e (subst (λ y. InRegion cells leaf ↔ Keeps Difference (InRegion xs leaf) (InRegion y leaf)) f (union_or Difference xs ys cells h leaf deep))
