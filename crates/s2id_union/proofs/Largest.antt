-- The largest cells all of whose numbers pass a test make a normal list, and which leaves it has.
use Rattle.std.proofs.Common.{◌≡◌, ◌↔◌, ℕ, zero, suc, ◌+◌, ◌-◌, ◌*◌, ◌^◌, ◌<◌, ◌≤◌, inl, inr, List, [], ◌∷◌, length, get_or, Option, Some, None, Bool, true, not, sym, ◌∙◌, ap, refl, arith, subst, All, Contains}
use Rattle.std.specs.Prelude.{filter, ◌||◌, ◌==◌}
use Rattle.std.specs.List.{filter_map, range_with_len, cons_option}
use Rattle.std.proofs.lemmas.Bool.{cases_lt, cases_eq, cases_Bool, cond_both, and_parts, and_from, or_cases, or_left, or_right, not-true, not_from_false, both_ways, eqb-true, eq-eqb}
use Rattle.std.proofs.lemmas.List.Elements.{All-cons, All-nil, All-contains, filter_passes}
use Rattle.std.proofs.lemmas.List.FromFn.{length-range_with_len, get_or-range_with_len}
use Rattle.std.proofs.lemmas.List.Kept.{AllPairs-cons, AllPairs-filter}
use Rattle.std.proofs.lemmas.List.Sums.{AllPass-from_list_all, list_all-from_AllPass}
use Rattle.s2id_core.specs.declared.cell_id.CellId.{CellId}
use Rattle.s2id_core.specs.CellId.{raw_of, path_of, level_of, first_of, end_of}
use Rattle.s2id_core.specs.Cell.{IsCellNumber}
use Rattle.s2id_core.specs.Leaves.{IsWithin, IsLeafPath}
use Rattle.s2id_core.specs.Path.{Path, path_at, ancestor, number_of}
use Rattle.s2id_core.specs.Span.{first_at, end_at, leaf_end, IsNested}
use Rattle.s2id_core.specs.Spelled.{cell_numbered}
use Rattle.s2id_core.proofs.Levels.{length-ancestor, IsPath-ancestor, ancestor-ancestor}
use Rattle.s2id_core.proofs.Nested.{span, leaf_span, nested_from_within, within_from_nested, nested_from_crossing_spans, level_from_nested, same_from_level}
use Rattle.s2id_core.proofs.Numbers.{path_of_cell, cell_of_path, path_at-number}
use Rattle.s2id_core.proofs.Spelled.{numbered, numbered-raw}
use Rattle.s2id_union.specs.Covers.{Covers}
use Rattle.s2id_union.specs.Loops.{IsMaximal, AreMaximalBelow}
use Rattle.s2id_union.specs.NormalForm.{lies_whole, parent_of, is_largest, cells_below, cells_where}
use Rattle.s2id_union.specs.Region.{InRegion, IsNormal}
use Rattle.s2id_union.proofs.Covering.{region_from_covers, covers_from_region}
use Rattle.s2id_core.proofs.Lists.{cons_cases, in_tail, at_head}
use Rattle.s2id_union.proofs.Normal.{normal_from_maximal}
use Rattle.s2id_union.proofs.Unique.{Rises}

-- ---- what the tests say

-- each number of a cell's span passes
abbrev pub IsWhole : (ℕ → Bool) → ℕ → Type 0
IsWhole passes n = (q : ℕ) → first_at n ≤ q → q < end_at n → passes q ≡ true

whole_from_test : (passes : ℕ → Bool) (n : ℕ) → lies_whole passes n ≡ true → IsWhole passes n
unfolding lies_whole
whole_from_test passes n e q from to =
    let wide = end_at n - first_at n in
    let k = q - first_at n in
    let long = length-range_with_len (first_at n) wide in
    let here = AllPass-from_list_all passes (range_with_len (first_at n) wide) e k 0 (omega arith) in
    let is : get_or (range_with_len (first_at n) wide) k 0 ≡ q = get_or-range_with_len (first_at n) wide k 0 (omega arith) ∙ (let same : first_at n + k ≡ q = omega arith in same) in
    subst (λ x. passes x ≡ true) is here

test_from_whole : (passes : ℕ → Bool) (n : ℕ) → IsWhole passes n → lies_whole passes n ≡ true
unfolding lies_whole
test_from_whole passes n h =
    let wide = end_at n - first_at n in
    let long = length-range_with_len (first_at n) wide in
    list_all-from_AllPass passes (range_with_len (first_at n) wide) (λ k d l.
    let lt : k < wide = omega arith in
    let is : get_or (range_with_len (first_at n) wide) k d ≡ first_at n + k = get_or-range_with_len (first_at n) wide k d lt in
    subst (λ x. passes x ≡ true) (sym is) (h (first_at n + k) (omega arith) (omega arith)))

-- ---- the parent

parent_path : (c : CellId) → path_at (parent_of c) ≡ ancestor (level_of c - 1) (path_of c)
unfolding parent_of
parent_path c =
    path_at-number (ancestor (level_of c - 1) (path_of c)) (IsPath-ancestor (level_of c - 1) (path_of c) (path_of_cell (raw_of c) c.valid) (omega arith))

parent_cell : (c : CellId) → IsCellNumber (parent_of c)
unfolding parent_of
parent_cell c =
    cell_of_path (ancestor (level_of c - 1) (path_of c)) (IsPath-ancestor (level_of c - 1) (path_of c) (path_of_cell (raw_of c) c.valid) (omega arith))

parent_level : (c : CellId) → length (path_at (parent_of c)).digits ≡ level_of c - 1
parent_level c = ap (λ (p : Path). length p.digits) (parent_path c) ∙ length-ancestor (level_of c - 1) (path_of c) (omega arith)

within_ancestor : (k : ℕ) (p : Path) → k ≤ length p.digits → IsWithin p (ancestor k p)
within_ancestor k p h = ap (λ x. ancestor x p) (length-ancestor k p h)

in_parent : (c : CellId) → IsNested (raw_of c) (parent_of c)
in_parent c =
    nested_from_within (raw_of c) (parent_of c) c.valid (parent_cell c) (subst (IsWithin (path_of c)) (sym (parent_path c)) (within_ancestor (level_of c - 1) (path_of c) (omega arith)))

-- a coarser cell round a cell is round its parent too
parent_within : (c : CellId) (b : ℕ) → IsCellNumber b → IsNested (raw_of c) b → length (path_at b).digits < level_of c
    → IsNested (parent_of c) b
parent_within c b cell nest coarser =
    let up : IsWithin (path_of c) (path_at b) = within_from_nested (raw_of c) b c.valid cell nest in
    let k = level_of c - 1 in
    let above : IsWithin (ancestor k (path_of c)) (path_at b) = ancestor-ancestor (length (path_at b).digits) k (path_of c) (omega arith) ∙ up in
    nested_from_within (parent_of c) b (parent_cell c) cell (subst (λ (p : Path). IsWithin p (path_at b)) (sym (parent_path c)) above)

-- ---- the largest cells

pub record IsLargest (passes : ℕ → Bool) (c : CellId) : Type 0 where
  pub whole : IsWhole passes (raw_of c)
  pub maximal : IsMaximal (λ q. passes q ≡ true) leaf_end (raw_of c)

largest_from_test : (passes : ℕ → Bool) (c : CellId) → is_largest passes c ≡ true → IsLargest passes c
unfolding is_largest
largest_from_test passes c e =
    let both = and_parts (lies_whole passes (raw_of c)) (level_of c == 0 || not (lies_whole passes (parent_of c))) e in
    record {
      whole = whole_from_test passes (raw_of c) both.0;
      maximal = λ b cell nest all.
          let ends = (span b cell).ends in
          let level = level_from_nested (raw_of c) b c.valid cell nest in
          elim (cases_lt (length (path_at b).digits) (level_of c)) [
            | inl coarser ↦
                let up = parent_within c b cell nest coarser in
                let from = up.from in
                let to = up.to in
                let whole = test_from_whole passes (parent_of c) (λ q f t. all q (omega arith) (omega arith) (omega arith)) in
                elim (or_cases (level_of c == 0) (not (lies_whole passes (parent_of c))) both.1) [
                  | inl face ↦ absurd (let none = eqb-true (level_of c) 0 face in omega arith)
                  | inr part ↦ absurd (both_ways (lies_whole passes (parent_of c)) (not-true (lies_whole passes (parent_of c)) part) whole)
                ]
            | inr same ↦ sym (same_from_level (raw_of c) b c.valid cell nest (omega arith))
          ];
    }

-- a largest cell round each cell that lies in the region whole
largest_around : (k : ℕ) (passes : ℕ → Bool) (c : CellId) → level_of c ≡ k → lies_whole passes (raw_of c) ≡ true
    → (m : CellId) × IsNested (raw_of c) (raw_of m) × (is_largest passes m ≡ true)
unfolding is_largest
largest_around zero passes c level whole =
    let itself : IsNested (raw_of c) (raw_of c) = record { from = omega arith; to = omega arith } in
    (c, itself, and_from (lies_whole passes (raw_of c)) (level_of c == 0 || not (lies_whole passes (parent_of c))) whole (or_left (level_of c == 0) (not (lies_whole passes (parent_of c))) (eq-eqb (level_of c) 0 level)))
largest_around (suc k) passes c level whole =
    let parent : CellId = record { raw = parent_of c; valid = parent_cell c } in
    elim (cases_Bool (lies_whole passes (parent_of c))) [
      | inl up ↦
          let r = largest_around k passes parent (parent_level c ∙ (let e : level_of c - 1 ≡ k = omega arith in e)) up in
          let near = in_parent c in
          let far = r.1 in
          let nest : IsNested (raw_of c) (raw_of r.0) = (let f1 = near.from in let t1 = near.to in let f2 = far.from in let t2 = far.to in record { from = omega arith; to = omega arith }) in
          (r.0, nest, r.2)
      | inr part ↦
          let itself : IsNested (raw_of c) (raw_of c) = record { from = omega arith; to = omega arith } in
          (c, itself, and_from (lies_whole passes (raw_of c)) (level_of c == 0 || not (lies_whole passes (parent_of c))) whole (or_right (level_of c == 0) (not (lies_whole passes (parent_of c))) (not_from_false (lies_whole passes (parent_of c)) part)))
    ]

-- ---- all cells below a limit

from_option : (a : ℕ) (o : Option CellId) (rest : List CellId) → cell_numbered a ≡ o → All (λ c. a < raw_of c) rest
    → All (λ c. a ≤ raw_of c) (cons_option o rest)
from_option a None rest e h = λ k d l. let less = h k d l in omega arith
from_option a (Some c) rest e h =
    All-cons (λ c. a ≤ raw_of c) c rest (let number = numbered-raw a c e in omega arith) (λ k d l. let less = h k d l in omega arith)

numbers_from : (a n : ℕ) → All (λ c. a ≤ raw_of c) (filter_map cell_numbered (range_with_len a n))
numbers_from a zero = All-nil (λ c. a ≤ raw_of c)
numbers_from a (suc n) =
    from_option a (cell_numbered a) (filter_map cell_numbered (range_with_len (a + 1) n)) refl (λ k d l. let h = numbers_from (a + 1) n k d l in omega arith)

rises_option : (a : ℕ) (o : Option CellId) (rest : List CellId) → cell_numbered a ≡ o → All (λ c. a < raw_of c) rest → Rises rest
    → Rises (cons_option o rest)
rises_option a None rest e h up = up
rises_option a (Some c) rest e h up =
    AllPairs-cons (λ a b. raw_of a < raw_of b) c rest (λ k d l. let less = h k d l in let number = numbered-raw a c e in omega arith) up

rises_from : (a n : ℕ) → Rises (filter_map cell_numbered (range_with_len a n))
rises_from a zero = λ i j d lt l. absurd (omega arith)
rises_from a (suc n) =
    rises_option a (cell_numbered a) (filter_map cell_numbered (range_with_len (a + 1) n)) refl (λ k d l. let h = numbers_from (a + 1) n k d l in omega arith) (rises_from (a + 1) n)

in_option_head : (o : Option CellId) (c : CellId) (rest : List CellId) → o ≡ Some c → Contains (cons_option o rest) c
in_option_head o c rest e = subst (λ x. Contains (cons_option x rest) c) (sym e) (at_head c rest)

in_option_tail : (o : Option CellId) (c : CellId) (rest : List CellId) → Contains rest c → Contains (cons_option o rest) c
in_option_tail None c rest h = h
in_option_tail (Some x) c rest h = in_tail x rest c h

each_numbered : (a n : ℕ) (c : CellId) → a ≤ raw_of c → raw_of c < a + n → Contains (filter_map cell_numbered (range_with_len a n)) c
each_numbered a zero c from to = absurd (omega arith)
each_numbered a (suc n) c from to =
    let rest = filter_map cell_numbered (range_with_len (a + 1) n) in
    elim (cases_eq a (raw_of c)) [
      | inl e ↦ in_option_head (cell_numbered a) c rest (ap cell_numbered e ∙ numbered (raw_of c) c.valid)
      | inr ne ↦ in_option_tail (cell_numbered a) c rest (each_numbered (a + 1) n c (omega arith) (omega arith))
    ]

pub each_below : (limit : ℕ) (c : CellId) → raw_of c < limit → Contains (cells_below limit) c
unfolding cells_below
each_below limit c h = each_numbered 0 limit c (omega arith) (omega arith)

pub rises_below : (limit : ℕ) → Rises (cells_below limit)
unfolding cells_below
rises_below limit = rises_from 0 limit

-- what passes the test is kept
pub kept : {X : Type 0} (p : X → Bool) (xs : List X) (x : X) → Contains xs x → p x ≡ true → Contains (filter p xs) x
kept p [] x h e = h
kept p (y ∷ ys) x h e =
    cond_both (p y) (y ∷ filter p ys) (filter p ys) (λ zs. Contains zs x) (λ t.
    elim (cons_cases y ys x h) [
      | inl same ↦ subst (λ z. Contains (y ∷ filter p ys) z) same (at_head y (filter p ys))
      | inr rest ↦ in_tail y (filter p ys) x (kept p ys x rest e)
    ]) (λ f.
    elim (cons_cases y ys x h) [
      | inl same ↦ absurd (both_ways (p y) f (ap p same ∙ e))
      | inr rest ↦ kept p ys x rest e
    ])

-- ---- the largest cells as a list

in_where : (passes : ℕ → Bool) (c : CellId) → is_largest passes c ≡ true → Contains (cells_where passes) c
unfolding cells_where
in_where passes c e = kept (is_largest passes) (cells_below (6 * 2 ^ 61)) c (each_below (6 * 2 ^ 61) c c.valid.0) e

all_largest : (passes : ℕ → Bool) → All (IsLargest passes) (cells_where passes)
unfolding cells_where
all_largest passes k d l =
    largest_from_test passes (get_or (filter (is_largest passes) (cells_below (6 * 2 ^ 61))) k d) (filter_passes (is_largest passes) (cells_below (6 * 2 ^ 61)) k d l)

where_rises : (passes : ℕ → Bool) → Rises (cells_where passes)
unfolding cells_where
where_rises passes = AllPairs-filter (λ a b. raw_of a < raw_of b) (is_largest passes) (cells_below (6 * 2 ^ 61)) (rises_below (6 * 2 ^ 61))

-- of two largest passes the one of the smaller number ends before the other begins
largest_apart : (passes : ℕ → Bool) (a b : CellId) → IsLargest passes a → IsLargest passes b → raw_of a < raw_of b → end_of a ≤ first_of b
largest_apart passes a b la lb less =
    let sa = span (raw_of a) a.valid in
    let sb = span (raw_of b) b.valid in
    let a1 = sa.from in
    let b2 = sb.to in
    elim (cases_lt (first_of b) (end_of a)) [
      | inl cross ↦
          elim (nested_from_crossing_spans (raw_of a) (raw_of b) a.valid b.valid (omega arith) cross) [
            | inl in_b ↦ absurd (let same = la.maximal (raw_of b) b.valid in_b (λ q f t _. lb.whole q f t) in omega arith)
            | inr in_a ↦ absurd (let same = lb.maximal (raw_of a) a.valid in_a (λ q f t _. la.whole q f t) in omega arith)
          ]
      | inr le ↦ le
    ]

largest_in : (passes : ℕ → Bool) (c : CellId) → Contains (cells_where passes) c → IsLargest passes c
largest_in passes c held = All-contains (IsLargest passes) (cells_where passes) c (all_largest passes) held

-- a number lies in the span of a cell all of whose numbers pass
pub record InWhole (passes : ℕ → Bool) (q : ℕ) : Type 0 where
  pub cell : CellId
  pub whole : IsWhole passes (raw_of cell)
  pub from : first_of cell ≤ q
  pub to : q < end_of cell

pub covers_where : (passes : ℕ → Bool) (q : ℕ) → Covers (cells_where passes) q ↔ InWhole passes q
covers_where passes q = (
  λ h. record { cell = h.cell; whole = (largest_in passes h.cell h.held).whole; from = h.from; to = h.to },
  λ h.
      let r = largest_around (level_of h.cell) passes h.cell refl (test_from_whole passes (raw_of h.cell) h.whole) in
      let around = r.1 in
      let f = around.from in
      let t = around.to in
      let from = h.from in
      let to = h.to in
      record { cell = r.0; held = in_where passes r.0 r.2; from = omega arith; to = omega arith },
)

where_maximal : (passes : ℕ → Bool) → AreMaximalBelow (cells_where passes) leaf_end
where_maximal passes = record {
  follow = λ i j d lt l.
      largest_apart passes (get_or (cells_where passes) i d) (get_or (cells_where passes) j d) (all_largest passes i d (omega arith)) (all_largest passes j d l) (where_rises passes i j d lt l);
  below = λ c held. (span (raw_of c) c.valid).ends;
  maximal = λ c held b cell nest all.
      (largest_in passes c held).maximal b cell nest (λ q f t low. let h = (covers_where passes q).0 (all q f t low) in h.whole q h.from h.to);
}

pub where_normal : (passes : ℕ → Bool) → IsNormal (cells_where passes)
where_normal passes = normal_from_maximal (cells_where passes) leaf_end (where_maximal passes)

-- ---- its leaves

-- a leaf is in the region exactly if both numbers of its span pass
pub where_region : (passes : ℕ → Bool) (leaf : Path) → IsLeafPath leaf
    → InRegion (cells_where passes) leaf ↔ ((passes (number_of leaf) ≡ true) × (passes (number_of leaf + 1) ≡ true))
where_region passes leaf deep =
    let n = number_of leaf in
    let valid : IsCellNumber n = cell_of_path leaf deep.path in
    let itself : CellId = record { raw = n; valid = valid } in
    let ends = leaf_span n valid (ap (λ (p : Path). length p.digits) (path_at-number leaf deep.path) ∙ deep.deep) in
    let first = ends.0 in
    let last = ends.1 in
    let odd = (span n valid).odd in (
      λ i.
          let h = (covers_where passes n).0 (covers_from_region (cells_where passes) leaf i) in
          let from = h.from in
          let to = h.to in
          let odd_end = (span (raw_of h.cell) h.cell.valid).odd_end in
          (h.whole n (omega arith) (omega arith), h.whole (n + 1) (omega arith) (omega arith)),
      λ both.
          region_from_covers (cells_where passes) leaf deep ((covers_where passes n).1 (record {
            cell = itself;
            whole = λ q from to. elim (cases_eq q n) [
              | inl same ↦ subst (λ x. passes x ≡ true) (sym same) both.0
              | inr other ↦ subst (λ x. passes x ≡ true) (let next : n + 1 ≡ q = omega arith in next) both.1
            ];
            from = omega arith;
            to = omega arith;
          })),
    )
