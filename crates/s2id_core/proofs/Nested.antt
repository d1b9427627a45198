-- Spans of cell numbers: what crates above need of cells, with no power in sight.
use Rattle.std.proofs.Common.{◌≡◌, ◌↔◌, ℕ, ◌+◌, ◌-◌, ◌*◌, ◌/◌, ◌%◌, suc, ◌^◌, ◌<◌, ◌≤◌, ◌⊎◌, inl, inr, Bool, IsTrue, length, sym, ◌∙◌, ap, arith}
use Rattle.std.proofs.lemmas.Bool.{cases_lt}
use Rattle.s2id_core.specs.Path.{Path, number_of, place_of, path_at, first_leaf, last_leaf}
use Rattle.s2id_core.specs.Leaves.{IsLeafPath, IsLeafOf, IsWithin, Contains, Overlap}
use Rattle.s2id_core.specs.Span.{first_at, end_at, leaf_end, IsNested}
use Rattle.s2id_core.specs.Cell.{IsCellNumber}
use Rattle.s2id_core.proofs.Powers.{four_pos, four_step, width_split, none_inside}
use Rattle.s2id_core.proofs.Places.{number_by_place, length-last_digits}
use Rattle.s2id_core.proofs.Numbers.{path_of_cell, number-path_at, path_of_place, path_by_place}
use Rattle.s2id_core.proofs.Levels.{below_from_within, same_place}
use Rattle.s2id_core.proofs.Spans.{width, start, start_below, within_from_span, span_from_within, finer_within, nested_from_crossing, leaf_of_first, leaf_of_last, place_of-first_leaf, place_of-last_leaf, number_of_leaf, place_from_leaf, leaf_from_place, leaves_iff_within, overlap_from_within, nested_from_overlap}

-- a cell's number, and its span, by its place
pub record ByWidth (n : ℕ) : Type 0 where
  pub number : n ≡ 2 * start (path_at n) + width (path_at n)
  pub first : first_at n ≡ 2 * start (path_at n) + 1
  pub last : end_at n ≡ 2 * start (path_at n) + 2 * width (path_at n) + 1

pub by_width : (n : ℕ) → IsCellNumber n → ByWidth n
unfolding first_at end_at
by_width n cell =
    let p = path_at n in
    let path = path_of_cell n cell in
    let first = number_of_leaf (first_leaf p) (leaf_of_first p path).deep in
    let last = number_of_leaf (last_leaf p) (leaf_of_last p path).deep in
    let at_first = place_of-first_leaf p in
    let at_last = place_of-last_leaf p in
    record {
      number = sym cell.2 ∙ number_by_place p path.at_most ∙ turn (place_of p) (width p);
      first = omega arith;
      last = omega arith;
    }
  where
    turn : (m w : ℕ) → (2 * m + 1) * w ≡ 2 * (m * w) + w
    turn m w = omega arith

pub first_by_width : (n : ℕ) → IsCellNumber n → first_at n + 4 ^ (30 - length (path_at n).digits) ≡ n + 1
first_by_width n cell = let number = (by_width n cell).number in let first = (by_width n cell).first in omega arith

pub end_by_width : (n : ℕ) → IsCellNumber n → end_at n ≡ n + 4 ^ (30 - length (path_at n).digits) + 1
end_by_width n cell = let number = (by_width n cell).number in let last = (by_width n cell).last in omega arith

-- a leaf's span is its own number
pub leaf_span : (n : ℕ) → IsCellNumber n → length (path_at n).digits ≡ 30 → (first_at n ≡ n) × (end_at n ≡ n + 2)
leaf_span n cell deep =
    let one : width (path_at n) ≡ 4 ^ 0 = ap (λ x. 4 ^ x) (let e : 30 - length (path_at n).digits ≡ 0 = omega arith in e) in
    let number = (by_width n cell).number in
    let first = (by_width n cell).first in
    let last = (by_width n cell).last in
    (omega arith, omega arith)

-- what a span is: it begins and ends at odd numbers, lies between 1 and `LEAF_END`, and has the cell's number in its middle
pub record IsSpan (n : ℕ) : Type 0 where
  pub begins : 1 ≤ first_at n
  pub odd : first_at n % 2 ≡ 1
  pub ends : end_at n ≤ leaf_end
  pub odd_end : end_at n % 2 ≡ 1
  pub middle : first_at n + end_at n ≡ 2 * n + 2
  pub from : first_at n ≤ n
  pub to : n + 2 ≤ end_at n

pub span : (n : ℕ) → IsCellNumber n → IsSpan n
span n cell =
    let r = by_width n cell in
    let number = r.number in
    let first = r.first in
    let last = r.last in
    let pos = four_pos (30 - length (path_at n).digits) in
    let most = start_below (path_at n) (path_of_cell n cell) in
    record {
      begins = omega arith;
      odd = omega arith;
      ends = omega arith;
      odd_end = omega arith;
      middle = omega arith;
      from = omega arith;
      to = omega arith;
    }

-- ---- nesting

pub within_from_nested : (a b : ℕ) → IsCellNumber a → IsCellNumber b → IsNested a b → IsWithin (path_at a) (path_at b)
within_from_nested a b cell_a cell_b h =
    let ra = by_width a cell_a in
    let rb = by_width b cell_b in
    let from = h.from in
    let to = h.to in
    let e1 = ra.first in
    let e2 = ra.last in
    let e3 = rb.first in
    let e4 = rb.last in
    within_from_span (path_at a) (path_at b) (path_of_cell a cell_a) (path_of_cell b cell_b) (omega arith) (omega arith)

pub nested_from_within : (a b : ℕ) → IsCellNumber a → IsCellNumber b → IsWithin (path_at a) (path_at b) → IsNested a b
nested_from_within a b cell_a cell_b w =
    let inside = span_from_within (path_at a) (path_at b) (path_of_cell a cell_a) (path_of_cell b cell_b) w in
    let from = inside.0 in
    let to = inside.1 in
    let e1 = (by_width a cell_a).first in
    let e2 = (by_width a cell_a).last in
    let e3 = (by_width b cell_b).first in
    let e4 = (by_width b cell_b).last in
    record { from = omega arith; to = omega arith }

-- of two cells whose spans cross, one is nested in the other
pub nested_from_crossing_spans : (a b : ℕ) → IsCellNumber a → IsCellNumber b → first_at a < end_at b → first_at b < end_at a
    → IsNested a b ⊎ IsNested b a
nested_from_crossing_spans a b cell_a cell_b low high =
    let e1 = (by_width a cell_a).first in
    let e2 = (by_width a cell_a).last in
    let e3 = (by_width b cell_b).first in
    let e4 = (by_width b cell_b).last in
    elim (nested_from_crossing (path_at a) (path_at b) (path_of_cell a cell_a) (path_of_cell b cell_b) (omega arith) (omega arith)) [ inl w ↦ inl (nested_from_within a b cell_a cell_b w) | inr w ↦ inr (nested_from_within b a cell_b cell_a w) ]

-- cells with one span are one
pub same_span : (a b : ℕ) → IsCellNumber a → IsCellNumber b → first_at a ≡ first_at b → end_at a ≡ end_at b → a ≡ b
same_span a b cell_a cell_b e f =
    let m = (span a cell_a).middle in
    let n = (span b cell_b).middle in
    omega arith

-- the level of a nested cell is as fine or finer, and the same only for the same cell
pub level_from_nested : (a b : ℕ) → IsCellNumber a → IsCellNumber b → IsNested a b → length (path_at b).digits ≤ length (path_at a).digits
level_from_nested a b cell_a cell_b h = (below_from_within (path_at a) (path_at b) (path_of_cell a cell_a) (within_from_nested a b cell_a cell_b h)).level

-- of two cells that cross, the one of the finer level, or of the same, is nested in the other
pub nested_by_level : (a b : ℕ) → IsCellNumber a → IsCellNumber b → first_at a < end_at b → first_at b < end_at a
    → length (path_at b).digits ≤ length (path_at a).digits → IsNested a b
nested_by_level a b cell_a cell_b low high level =
    let e1 = (by_width a cell_a).first in
    let e2 = (by_width a cell_a).last in
    let e3 = (by_width b cell_b).first in
    let e4 = (by_width b cell_b).last in
    nested_from_within a b cell_a cell_b (finer_within (path_at a) (path_at b) (path_of_cell a cell_a) (path_of_cell b cell_b) level (omega arith) (omega arith))

pub same_from_level : (a b : ℕ) → IsCellNumber a → IsCellNumber b → IsNested a b → length (path_at a).digits ≡ length (path_at b).digits
    → a ≡ b
same_from_level a b cell_a cell_b h level =
    let from = h.from in
    let to = h.to in
    let wide : width (path_at a) ≡ width (path_at b) = ap (λ x. 4 ^ (30 - x)) level in
    let e1 = (by_width a cell_a).first in
    let e2 = (by_width a cell_a).last in
    let e3 = (by_width b cell_b).first in
    let e4 = (by_width b cell_b).last in
    let n1 = (by_width a cell_a).number in
    let n2 = (by_width b cell_b).number in
    omega arith

-- ---- leaves

-- the leaves of a cell are the odd numbers of its span
pub span_from_leaf : (l : Path) (n : ℕ) → IsCellNumber n → IsLeafOf l (path_at n) → (first_at n ≤ number_of l) × (number_of l < end_at n)
span_from_leaf l n cell h =
    let at = place_from_leaf l (path_at n) (path_of_cell n cell) h in
    let from = at.0 in
    let to = at.1 in
    let number = number_of_leaf l h.deep in
    let first = (by_width n cell).first in
    let last = (by_width n cell).last in
    (omega arith, omega arith)

pub leaf_from_span : (l : Path) (n : ℕ) → IsCellNumber n → IsLeafPath l → first_at n ≤ number_of l → number_of l < end_at n
    → IsLeafOf l (path_at n)
leaf_from_span l n cell deep from to =
    let number = number_of_leaf l deep in
    let first = (by_width n cell).first in
    let last = (by_width n cell).last in
    leaf_from_place l (path_at n) (path_of_cell n cell) deep (omega arith) (omega arith)

-- each odd number below `LEAF_END` is a leaf's
pub leaf_of_odd : (n : ℕ) → n % 2 ≡ 1 → n < leaf_end → IsCellNumber n × IsLeafPath (path_at n)
leaf_of_odd n odd below =
    let whole : n ≡ (2 * (n / 2) + 1) * 4 ^ 0 = omega arith in
    let number = number-path_at (n / 2) 0 n (omega arith) whole in
    let cell : IsCellNumber n = (omega arith, omega arith, number) in
    let path : path_at n ≡ path_of_place 30 (n / 2) = path_by_place (n / 2) 0 n (omega arith) whole in
    (cell, record { path = path_of_cell n cell; deep = ap (λ (p : Path). length p.digits) path ∙ length-last_digits 30 (n / 2) })

-- the middle of a coarser cell's span lies between two cells of a finer level
middle_between : (a b : ℕ) → IsCellNumber a → IsCellNumber b → length (path_at a).digits < length (path_at b).digits → first_at b ≤ a
    → a + 2 ≤ end_at b → ⊥
middle_between a b cell_a cell_b level from to =
    let p = path_at a in
    let q = path_at b in
    let j = length q.digits - length p.digits - 1 in
    let most = (path_of_cell b cell_b).at_most in
    let wide : width p ≡ 4 * (4 ^ j * width q) = width_split (length p.digits) (length q.digits) (omega arith) most ∙ ap (λ x. 4 ^ x * width q) (let e : length q.digits - length p.digits ≡ suc j = omega arith in e) ∙ ap (λ x. x * width q) (four_step j) ∙ turn (4 ^ j) (width q) in
    let number : a ≡ 2 * ((2 * place_of p + 1) * (2 * 4 ^ j) * width q) = (by_width a cell_a).number ∙ ap (λ x. 2 * (place_of p * x) + x) wide ∙ regroup (place_of p) (4 ^ j) (width q) in
    let first = (by_width b cell_b).first in
    let last = (by_width b cell_b).last in
    none_inside (place_of q) ((2 * place_of p + 1) * (2 * 4 ^ j)) (width q) (omega arith) (omega arith)
  where
    turn : (x w : ℕ) → 4 * x * w ≡ 4 * (x * w)
    turn x w = omega arith

    regroup : (m x w : ℕ) → 2 * (m * (4 * (x * w))) + 4 * (x * w) ≡ 2 * ((2 * m + 1) * (2 * x) * w)
    regroup m x w = omega arith

-- ---- what the code compares: the middle of one span against the ends of the other

pub nested_from_middle : (a b : ℕ) → IsCellNumber a → IsCellNumber b → first_at b ≤ a → a + 2 ≤ end_at b → IsNested a b
nested_from_middle a b cell_a cell_b from to =
    elim (cases_lt (length (path_at a).digits) (length (path_at b).digits)) [
      | inl coarser ↦ absurd (middle_between a b cell_a cell_b coarser from to)
      | inr level ↦
          (let around = span a cell_a in let f = around.from in let t = around.to in nested_by_level a b cell_a cell_b (omega arith) (omega arith) level)
    ]

-- what `contains` and `intersects` promise, by what the code compares

pub record IsContaining (a b : ℕ) (r : Bool) : Type 0 where
  pub leaves : IsTrue r ↔ Contains (path_at a) (path_at b)
  pub within : IsTrue r ↔ IsWithin (path_at b) (path_at a)
  pub nested : IsTrue r ↔ IsNested b a

pub containing : (a b : ℕ) (r : Bool) → IsCellNumber a → IsCellNumber b → IsTrue r ↔ ((first_at a ≤ b) × (b + 2 ≤ end_at a))
    → IsContaining a b r
containing a b r cell_a cell_b by =
    let path_a = path_of_cell a cell_a in
    let path_b = path_of_cell b cell_b in
    let around = span b cell_b in
    let leaves = leaves_iff_within (path_at b) (path_at a) path_b path_a in
    let to_nested : IsTrue r → IsNested b a = λ is. nested_from_middle b a cell_b cell_a (by.0 is).0 (by.0 is).1 in
    let from_nested : IsNested b a → IsTrue r = λ h. by.1 (let f = h.from in let t = h.to in let g = around.from in let u = around.to in (omega arith, omega arith)) in
    record {
      leaves = (λ is. leaves.1 (within_from_nested b a cell_b cell_a (to_nested is)), λ h. from_nested (nested_from_within b a cell_b cell_a (leaves.0 h)));
      within = (λ is. within_from_nested b a cell_b cell_a (to_nested is), λ w. from_nested (nested_from_within b a cell_b cell_a w));
      nested = (to_nested, from_nested);
    }

crossing_from_nested : (a b : ℕ) → IsCellNumber a → IsCellNumber b → IsNested a b → (first_at a < end_at b) × (first_at b < end_at a)
crossing_from_nested a b cell_a cell_b h =
    let f = h.from in
    let t = h.to in
    let g = (span a cell_a).from in
    let u = (span a cell_a).to in
    (omega arith, omega arith)

pub record IsCrossing (a b : ℕ) (r : Bool) : Type 0 where
  pub leaves : IsTrue r ↔ Overlap (path_at a) (path_at b)
  pub nested : IsTrue r ↔ (IsNested b a ⊎ IsNested a b)

overlap_from_nested : (a b : ℕ) → IsCellNumber a → IsCellNumber b → IsNested b a ⊎ IsNested a b → Overlap (path_at a) (path_at b)
overlap_from_nested a b cell_a cell_b (inl h) =
    let o = overlap_from_within (path_at b) (path_at a) (path_of_cell b cell_b) (path_of_cell a cell_a) (within_from_nested b a cell_b cell_a h) in (o.0, o.2, o.1)
overlap_from_nested a b cell_a cell_b (inr h) = overlap_from_within (path_at a) (path_at b) (path_of_cell a cell_a) (path_of_cell b cell_b) (within_from_nested a b cell_a cell_b h)

nested_from_shared : (a b : ℕ) → IsCellNumber a → IsCellNumber b → Overlap (path_at a) (path_at b) → IsNested b a ⊎ IsNested a b
nested_from_shared a b cell_a cell_b o =
    elim (nested_from_overlap (path_at a) (path_at b) (path_of_cell a cell_a) (path_of_cell b cell_b) o) [ inl w ↦ inr (nested_from_within a b cell_a cell_b w) | inr w ↦ inl (nested_from_within b a cell_b cell_a w) ]

crossing_from_either : (a b : ℕ) → IsCellNumber a → IsCellNumber b → IsNested b a ⊎ IsNested a b
    → (first_at a < end_at b) × (first_at b < end_at a)
crossing_from_either a b cell_a cell_b (inl h) = let x = crossing_from_nested b a cell_b cell_a h in (x.1, x.0)
crossing_from_either a b cell_a cell_b (inr h) = crossing_from_nested a b cell_a cell_b h

either_from_crossing : (a b : ℕ) → IsCellNumber a → IsCellNumber b → (first_at a < end_at b) × (first_at b < end_at a)
    → IsNested b a ⊎ IsNested a b
either_from_crossing a b cell_a cell_b h =
    elim (nested_from_crossing_spans a b cell_a cell_b h.0 h.1) [ inl x ↦ inr x | inr x ↦ inl x ]

pub crossing : (a b : ℕ) (r : Bool) → IsCellNumber a → IsCellNumber b → IsTrue r ↔ ((first_at a < end_at b) × (first_at b < end_at a))
    → IsCrossing a b r
crossing a b r cell_a cell_b by =
    let to_nested : IsTrue r → IsNested b a ⊎ IsNested a b = λ is. either_from_crossing a b cell_a cell_b (by.0 is) in
    let from_nested : IsNested b a ⊎ IsNested a b → IsTrue r = λ h. by.1 (crossing_from_either a b cell_a cell_b h) in
    record {
      leaves = (λ is. overlap_from_nested a b cell_a cell_b (to_nested is), λ o. from_nested (nested_from_shared a b cell_a cell_b o));
      nested = (to_nested, from_nested);
    }

-- ---- first and last leaves, as the code finds them

pub first_place : (n : ℕ) → IsCellNumber n → first_at n ≡ 2 * start (path_at n) + 1
first_place n cell = (by_width n cell).first

pub last_place : (n : ℕ) → IsCellNumber n → end_at n ≡ 2 * (start (path_at n) + width (path_at n)) + 1
last_place n cell = let last = (by_width n cell).last in omega arith

pub leaf_at_first : (r n : ℕ) → IsCellNumber r → IsCellNumber n → length (path_at r).digits ≡ 30 → place_of (path_at r) ≡ start (path_at n)
    → path_at r ≡ first_leaf (path_at n)
leaf_at_first r n cell_r cell_n deep place =
    let leaf = (leaf_of_first (path_at n) (path_of_cell n cell_n)).deep in
    same_place (path_at r) (first_leaf (path_at n)) (path_of_cell r cell_r) leaf.path (deep ∙ sym leaf.deep) (place ∙ sym (place_of-first_leaf (path_at n)))

pub leaf_at_last : (r n : ℕ) → IsCellNumber r → IsCellNumber n → length (path_at r).digits ≡ 30
    → place_of (path_at r) + 1 ≡ start (path_at n) + width (path_at n) → path_at r ≡ last_leaf (path_at n)
leaf_at_last r n cell_r cell_n deep place =
    let leaf = (leaf_of_last (path_at n) (path_of_cell n cell_n)).deep in
    let at_last = place_of-last_leaf (path_at n) in
    same_place (path_at r) (last_leaf (path_at n)) (path_of_cell r cell_r) leaf.path (deep ∙ sym leaf.deep) (omega arith)

pub number_of_first : (r n : ℕ) → IsCellNumber r → path_at r ≡ first_leaf (path_at n) → r ≡ first_at n
unfolding first_at
number_of_first r n cell e = sym cell.2 ∙ ap number_of e

pub number_of_last : (r n : ℕ) → IsCellNumber r → path_at r ≡ last_leaf (path_at n) → r + 2 ≡ end_at n
unfolding end_at
number_of_last r n cell e = ap (λ x. x + 2) (sym cell.2 ∙ ap number_of e)
