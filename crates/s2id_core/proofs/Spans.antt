-- Cells as spans of leaves: nested if one lies within the other, and apart if neither does.
use Rattle.std.proofs.Common.{◌≡◌, ◌↔◌, ℕ, ◌+◌, ◌-◌, ◌*◌, ◌^◌, ◌<◌, ◌≤◌, ◌⊎◌, inl, inr, ◌++◌, length, replicate, sym, ◌∙◌, ap, ap₂, refl, arith}
use Rattle.std.proofs.lemmas.Bool.{cases_lt}
use Rattle.std.proofs.lemmas.List.{length-append, length-replicate, take_at}
use Rattle.std.proofs.lemmas.List.Elements.{All-append, All-replicate}
use Rattle.s2id_core.specs.Path.{Path, IsPath, number_of, place_of, ancestor, first_leaf, last_leaf}
use Rattle.s2id_core.specs.Leaves.{IsLeafPath, IsLeafOf, IsWithin, HasLeavesWithin, Overlap}
use Rattle.s2id_core.proofs.Powers.{four_pos, four_split, level_from_width, width_split, span_inside, inside_from_crossing}
use Rattle.s2id_core.proofs.Places.{number_by_place}
use Rattle.s2id_core.proofs.Numbers.{place_below}
use Rattle.s2id_core.proofs.Levels.{base_four-zeros, base_four-threes, place_of-more, ancestor-ancestor, below_from_within, within_from_below}

-- ---- a path's span, counted in leaves

abbrev pub width : Path → ℕ
width p = 4 ^ (30 - length p.digits)

abbrev pub start : Path → ℕ
start p = place_of p * width p

pub start_below : (p : Path) → IsPath p → start p + width p ≤ 6 * 4 ^ 30
start_below p h =
    let k = length p.digits in
    let most = span_inside 0 (place_of p) (6 * 4 ^ k) (width p) (6 * 4 ^ 30) (whole k h.at_most) (omega arith) (let m = place_below p h in omega arith) in
    omega (arith, most.1)
  where
    turn : (a b : ℕ) → 6 * (a * b) ≡ 6 * a * b
    turn a b = omega arith

    whole : (k : ℕ) → k ≤ 30 → 6 * 4 ^ 30 ≡ 6 * 4 ^ k * 4 ^ (30 - k)
    whole k h = ap (λ x. 6 * x) (sym (four_split 30 k h)) ∙ turn (4 ^ k) (4 ^ (30 - k))

-- ---- within, and crossing

pub within_from_span : (p q : Path) → IsPath p → IsPath q → start q ≤ start p → start p + width p ≤ start q + width q → IsWithin p q
within_from_span p q hp hq from to =
    let pos = four_pos (30 - length p.digits) in
    let level = level_from_width (length q.digits) (length p.digits) hq.at_most hp.at_most (omega arith) in
    let at = inside_from_crossing (place_of q) (place_of p) (4 ^ (length p.digits - length q.digits)) (width p) (width q) (width_split (length q.digits) (length p.digits) level hp.at_most) (omega arith) (omega arith) in
    within_from_below p q hp hq (record { level = level; from = at.0; to = at.1 })

pub span_from_within : (p q : Path) → IsPath p → IsPath q → IsWithin p q → (start q ≤ start p) × (start p + width p ≤ start q + width q)
span_from_within p q hp hq w =
    let b = below_from_within p q hp w in
    span_inside (place_of q) (place_of p) (4 ^ (length p.digits - length q.digits)) (width p) (width q) (width_split (length q.digits) (length p.digits) b.level hp.at_most) b.from b.to

pub finer_within : (p q : Path) → IsPath p → IsPath q → length q.digits ≤ length p.digits → start p < start q + width q
    → start q < start p + width p → IsWithin p q
finer_within p q hp hq level low high =
    let at = inside_from_crossing (place_of q) (place_of p) (4 ^ (length p.digits - length q.digits)) (width p) (width q) (width_split (length q.digits) (length p.digits) level hp.at_most) low high in
    within_from_below p q hp hq (record { level = level; from = at.0; to = at.1 })

-- of two cells whose spans cross, one lies within the other
pub nested_from_crossing : (p q : Path) → IsPath p → IsPath q → start p < start q + width q → start q < start p + width p
    → IsWithin p q ⊎ IsWithin q p
nested_from_crossing p q hp hq low high =
    elim (cases_lt (length p.digits) (length q.digits)) [ inl h ↦ inr (finer_within q p hq hp (omega arith) high low) | inr h ↦ inl (finer_within p q hp hq h low high) ]

-- ---- leaves

padded_path : (p : Path) (d : ℕ) → d < 4 → IsPath p
    → IsLeafPath (record { face = p.face; digits = p.digits ++ replicate (30 - length p.digits) d })
padded_path p d small h =
    let k = 30 - length p.digits in
    let most = h.at_most in
    let long : length (p.digits ++ replicate k d) ≡ 30 = length-append p.digits (replicate k d) ∙ ap (λ x. length p.digits + x) (length-replicate {A = ℕ} k d) ∙ (let e : length p.digits + k ≡ 30 = omega arith in e) in
    record {
      path = record { face_below = h.face_below; at_most = omega arith; digits_below = All-append (λ d. d < 4) p.digits (replicate k d) h.digits_below (All-replicate (λ d. d < 4) k d small) };
      deep = long;
    }

padded_within : (p : Path) (d : ℕ) → IsWithin (record { face = p.face; digits = p.digits ++ replicate (30 - length p.digits) d }) p
unfolding ancestor
padded_within p d = ap (λ x. let q : Path = record { face = p.face; digits = x } in q) (take_at p.digits (replicate (30 - length p.digits) d) (length p.digits) refl)

pub leaf_of_first : (p : Path) → IsPath p → IsLeafOf (first_leaf p) p
unfolding first_leaf
leaf_of_first p h = record { deep = padded_path p 0 (omega arith) h; within = padded_within p 0 }

pub leaf_of_last : (p : Path) → IsPath p → IsLeafOf (last_leaf p) p
unfolding last_leaf
leaf_of_last p h = record { deep = padded_path p 3 (omega arith) h; within = padded_within p 3 }

pub place_of-first_leaf : (p : Path) → place_of (first_leaf p) ≡ start p
unfolding first_leaf
place_of-first_leaf p =
    let k = 30 - length p.digits in
    place_of-more p.face p.digits (replicate k 0) ∙ ap₂ (λ x y. place_of p * 4 ^ x + y) (length-replicate {A = ℕ} k 0) (base_four-zeros k) ∙ (let e : start p + 0 ≡ start p = omega arith in e)

pub place_of-last_leaf : (p : Path) → place_of (last_leaf p) + 1 ≡ start p + width p
unfolding last_leaf
place_of-last_leaf p =
    let k = 30 - length p.digits in
    let more = place_of-more p.face p.digits (replicate k 3) in
    let threes = base_four-threes k in
    let long = ap (λ x. place_of p * 4 ^ x) (length-replicate {A = ℕ} k 3) in
    omega arith

-- a leaf's number, and its span of one
pub number_of_leaf : (l : Path) → IsLeafPath l → number_of l ≡ 2 * place_of l + 1
number_of_leaf l h =
    let deep = h.deep in
    number_by_place l h.path.at_most ∙ ap (λ x. (2 * place_of l + 1) * 4 ^ x) (let e : 30 - length l.digits ≡ 0 = omega arith in e) ∙ (let e : (2 * place_of l + 1) * 1 ≡ 2 * place_of l + 1 = omega arith in e)

width_of_leaf : (l : Path) → IsLeafPath l → width l ≡ 1
width_of_leaf l h = let deep = h.deep in ap (λ x. 4 ^ x) (let e : 30 - length l.digits ≡ 0 = omega arith in e)

start_of_leaf : (l : Path) → IsLeafPath l → start l ≡ place_of l
start_of_leaf l h = ap (λ x. place_of l * x) (width_of_leaf l h) ∙ (let e : place_of l * 1 ≡ place_of l = omega arith in e)

-- the leaves of a cell are those whose places lie in its span
pub place_from_leaf : (l p : Path) → IsPath p → IsLeafOf l p → (start p ≤ place_of l) × (place_of l < start p + width p)
place_from_leaf l p hp h =
    let ends = span_from_within l p h.deep.path hp h.within in
    let one = width_of_leaf l h.deep in
    let at = start_of_leaf l h.deep in
    let from = ends.0 in
    let to = ends.1 in
    (omega arith, omega arith)

pub leaf_from_place : (l p : Path) → IsPath p → IsLeafPath l → start p ≤ place_of l → place_of l < start p + width p → IsLeafOf l p
leaf_from_place l p hp deep from to =
    let one = width_of_leaf l deep in
    let at = start_of_leaf l deep in
    record { deep = deep; within = within_from_span l p deep.path hp (omega arith) (omega arith) }

-- ---- containing and overlapping, by leaves

pub leaves_from_within : (p q : Path) → IsWithin p q → length q.digits ≤ length p.digits → HasLeavesWithin p q
leaves_from_within p q w level l h = record {
  deep = h.deep;
  within = sym (ancestor-ancestor (length q.digits) (length p.digits) l level) ∙ ap (ancestor (length q.digits)) h.within ∙ w;
}

pub within_from_leaves : (p q : Path) → IsPath p → IsPath q → HasLeavesWithin p q → IsWithin p q
within_from_leaves p q hp hq leaves =
    let first = place_from_leaf (first_leaf p) q hq (leaves (first_leaf p) (leaf_of_first p hp)) in
    let last = place_from_leaf (last_leaf p) q hq (leaves (last_leaf p) (leaf_of_last p hp)) in
    let at_first = place_of-first_leaf p in
    let at_last = place_of-last_leaf p in
    let from = first.0 in
    let to = last.1 in
    within_from_span p q hp hq (omega arith) (omega arith)

pub leaves_iff_within : (p q : Path) → IsPath p → IsPath q → HasLeavesWithin p q ↔ IsWithin p q
leaves_iff_within p q hp hq =
    (within_from_leaves p q hp hq, λ w. leaves_from_within p q w (below_from_within p q hp w).level)

pub overlap_from_within : (p q : Path) → IsPath p → IsPath q → IsWithin p q → Overlap p q
overlap_from_within p q hp hq w =
    (first_leaf p, leaf_of_first p hp, leaves_from_within p q w (below_from_within p q hp w).level (first_leaf p) (leaf_of_first p hp))

pub nested_from_overlap : (p q : Path) → IsPath p → IsPath q → Overlap p q → IsWithin p q ⊎ IsWithin q p
nested_from_overlap p q hp hq o =
    let in_p = place_from_leaf o.0 p hp o.1 in
    let in_q = place_from_leaf o.0 q hq o.2 in
    nested_from_crossing p q hp hq (let a = in_p.0 in let b = in_q.1 in omega arith) (let a = in_q.0 in let b = in_p.1 in omega arith)
