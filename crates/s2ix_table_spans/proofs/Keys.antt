-- The order of the sweep, against first leaves and depths.
use Rattle.std.proofs.Common.{◌≡◌, ℕ, ◌+◌, ◌-◌, ◌*◌, ◌<◌, ◌≤◌, inl, inr, [], ◌∷◌, sym, ◌∙◌, ap, arith, Contains}
use Rattle.std.proofs.lemmas.Bool.{cases_lt}
use Rattle.s2id_core.specs.CellId.{raw_of, first_of, end_of}
use Rattle.s2id_core.specs.Span.{IsNested}
use Rattle.s2id_core.proofs.Lists.{cons_cases, none_in_nil}
use Rattle.s2ix_bag_pairs.specs.Collection.{Collection, IsCollection, IsCollectionFrom}
use Rattle.s2ix_bag_pairs.specs.Pair.{rank_of}
use Rattle.s2ix_bag_pairs.specs.declared.pair.Held.{Held}
use Rattle.s2ix_table_walk.specs.Contents.{depth_key}
use Rattle.s2ix_table_walk.proofs.Over.{IsOver, span_of, nested_over, depth_bound}
use Rattle.s2ix_table_walk.proofs.Lists.{same_pair_over, later_rank}
use Rattle.s2ix_table_spans.specs.Order.{sweep_key}

first_less : (f g d e : ℕ) → d < 68719476736 → e < 68719476736 → f < g
    → f * 68719476736 + (68719476736 - d) < g * 68719476736 + (68719476736 - e)
first_less f g d e a b lt = omega arith

depth_less : (f g d e : ℕ) → d < 68719476736 → e < 68719476736 → f ≡ g → e < d
    → f * 68719476736 + (68719476736 - d) < g * 68719476736 + (68719476736 - e)
depth_less f g d e a b same lt = omega (arith, ap (λ x. x * 68719476736) same)

-- a cell that begins before comes before
pub key_by_first : (a b : Held) → first_of a.pair.cell < first_of b.pair.cell → sweep_key a < sweep_key b
unfolding sweep_key
key_by_first a b lt =
    first_less (first_of a.pair.cell) (first_of b.pair.cell) (depth_key a) (depth_key b) (depth_bound a) (depth_bound b) lt

-- of cells that begin together the outer one comes before
pub key_by_depth : (a b : Held) → first_of a.pair.cell ≡ first_of b.pair.cell → depth_key b < depth_key a → sweep_key a < sweep_key b
unfolding sweep_key
key_by_depth a b same lt =
    depth_less (first_of a.pair.cell) (first_of b.pair.cell) (depth_key a) (depth_key b) (depth_bound a) (depth_bound b) same lt

pub first_by_key : (a b : Held) → sweep_key a ≤ sweep_key b → first_of a.pair.cell ≤ first_of b.pair.cell
first_by_key a b le =
    elim (cases_lt (first_of b.pair.cell) (first_of a.pair.cell)) [
      | inl lt ↦ absurd (let less = key_by_first b a lt in omega arith)
      | inr ge ↦ ge
    ]

pub depth_by_key : (a b : Held) → first_of a.pair.cell ≡ first_of b.pair.cell → sweep_key a ≤ sweep_key b → depth_key b ≤ depth_key a
depth_by_key a b same le =
    elim (cases_lt (depth_key a) (depth_key b)) [
      | inl lt ↦ absurd (let less = key_by_depth b a (sym same) lt in omega arith)
      | inr ge ↦ ge
    ]

deeper : (f g d e : ℕ) → d < 68719476736 → e < 68719476736 → f ≡ g
    → f * 68719476736 + (68719476736 - d) < g * 68719476736 + (68719476736 - e) → e < d
deeper f g d e a b same lt = omega (arith, ap (λ x. x * 68719476736) same)

pub depth_before : (a b : Held) → first_of a.pair.cell ≡ first_of b.pair.cell → sweep_key a < sweep_key b → depth_key b < depth_key a
unfolding sweep_key
depth_before a b same lt =
    deeper (first_of a.pair.cell) (first_of b.pair.cell) (depth_key a) (depth_key b) (depth_bound a) (depth_bound b) same lt

-- a key is above 0
pub key_some : (h : Held) → 0 < sweep_key h
unfolding sweep_key
key_some h = let b = (span_of h).begins in some (first_of h.pair.cell) (68719476736 - depth_key h) b
  where
    some : (f d : ℕ) → 1 ≤ f → 0 < f * 68719476736 + d
    some f d le = omega arith

-- the first leaf of a cell is its own
pub over_first : (h : Held) → IsOver h (first_of h.pair.cell)
over_first h = let r = (span_of h).rises in record { from = omega arith; to = omega arith }

-- a cell that begins within another lies in it, and deeper
pub inner_nested : (outer inner : Held) → first_of outer.pair.cell < first_of inner.pair.cell
    → first_of inner.pair.cell < end_of outer.pair.cell
    → (depth_key inner < depth_key outer) × IsNested (raw_of inner.pair.cell) (raw_of outer.pair.cell)
inner_nested outer inner begins ends =
    let q = first_of inner.pair.cell in
    let over : IsOver outer q = record { from = omega arith; to = ends } in
    let deeper : depth_key inner < depth_key outer =
    elim (cases_lt (depth_key inner) (depth_key outer)) [
      | inl lt ↦ lt
      | inr le ↦ absurd (let n = (nested_over q outer inner over (over_first inner) le).from in omega arith)
    ] in
    (deeper, nested_over q inner outer (over_first inner) over (omega arith))

-- ---- a pair is held once

pub same_in : (n : ℕ) (hs : Collection) (a b : Held) → IsCollectionFrom n hs → Contains hs a → Contains hs b
    → rank_of a.pair ≡ rank_of b.pair → a ≡ b
same_in n [] a b c in_a in_b same = absurd (none_in_nil a in_a)
same_in n (h ∷ hs) a b c in_a in_b same =
    elim (cons_cases h hs a in_a) [
      | inl e ↦
          elim (cons_cases h hs b in_b) [
            | inl f ↦ sym e ∙ f
            | inr later ↦
                absurd (let r = later_rank (rank_of h.pair + 1) hs b c.2 later in let s = ap (λ (x : Held). rank_of x.pair) e in omega arith)
          ]
      | inr there ↦
          elim (cons_cases h hs b in_b) [
            | inl f ↦
                absurd (let r = later_rank (rank_of h.pair + 1) hs a c.2 there in let s = ap (λ (x : Held). rank_of x.pair) f in omega arith)
            | inr later ↦ same_in (rank_of h.pair + 1) hs a b c.2 there later same
          ]
    ]

-- pairs over one leaf with one depth are one
pub same_by_depth : (q : ℕ) (hs : Collection) (a b : Held) → IsCollection hs → Contains hs a → Contains hs b → IsOver a q → IsOver b q
    → depth_key a ≡ depth_key b → a ≡ b
same_by_depth q hs a b c in_a in_b over_a over_b same =
    same_in 0 hs a b c in_a in_b (same_pair_over q a b over_a over_b same)

pub same_by_key : (hs : Collection) (a b : Held) → IsCollection hs → Contains hs a → Contains hs b → sweep_key a ≡ sweep_key b → a ≡ b
same_by_key hs a b c in_a in_b same =
    let ab = first_by_key a b (omega arith) in
    let ba = first_by_key b a (omega arith) in
    let firsts : first_of a.pair.cell ≡ first_of b.pair.cell = omega arith in
    let l = depth_by_key a b firsts (omega arith) in
    let g = depth_by_key b a (sym firsts) (omega arith) in
    let o = over_first b in
    let o1 = o.from in
    let o2 = o.to in
    let p = over_first a in
    let p1 = p.from in
    let p2 = p.to in
    same_by_depth (first_of a.pair.cell) hs a b c in_a in_b p (record { from = omega arith; to = omega arith }) (omega arith)
