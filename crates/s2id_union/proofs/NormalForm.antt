-- The normal form of a list of cells is normal and has its region, so each normal list with that region is it.
use Rattle.std.proofs.Common.{◌≡◌, ◌↔◌, ℕ, List, true, sym}
use Rattle.std.specs.Prelude.{◌&&◌, nat_le, nat_lt}
use Rattle.std.proofs.lemmas.Bool.{and_parts, and_from, leb-true, ltb-true, le-leb, lt-ltb}
use Rattle.std.proofs.lemmas.List.Folds.{Any-from_list_any, list_any-from_Any}
use Rattle.s2id_core.specs.declared.cell_id.CellId.{CellId}
use Rattle.s2id_core.specs.CellId.{first_of, end_of}
use Rattle.s2id_union.specs.Covers.{Covers}
use Rattle.s2id_union.specs.NormalForm.{is_covered, normal_form}
use Rattle.s2id_union.specs.Region.{IsNormal, HaveSameRegion}
use Rattle.s2id_union.proofs.Largest.{covers_where, where_normal}
use Rattle.s2id_union.proofs.Made.{same_leaves}
use Rattle.s2id_union.proofs.Unique.{one_normal}

-- ---- what the tests say

pub covers_from_test : (cells : List CellId) (q : ℕ) → is_covered cells q ≡ true → Covers cells q
unfolding is_covered
covers_from_test cells q e =
    let a = Any-from_list_any (λ (cell : CellId). nat_le (first_of cell) q && nat_lt q (end_of cell)) cells e in
    let both = and_parts (nat_le (first_of a.1) q) (nat_lt q (end_of a.1)) a.4 in
    record { cell = a.1; held = (a.0, a.2, a.3); from = leb-true (first_of a.1) q both.0; to = ltb-true q (end_of a.1) both.1 }

pub test_from_covers : (cells : List CellId) (q : ℕ) → Covers cells q → is_covered cells q ≡ true
unfolding is_covered
test_from_covers cells q h =
    list_any-from_Any (λ (cell : CellId). nat_le (first_of cell) q && nat_lt q (end_of cell)) cells (
      h.held.0,
      h.cell,
      h.held.1,
      h.held.2,
      and_from (nat_le (first_of h.cell) q) (nat_lt q (end_of h.cell)) (le-leb (first_of h.cell) q h.from) (lt-ltb q (end_of h.cell) h.to),
    )

-- ---- the normal form

covers_same : (cells : List CellId) (q : ℕ) → Covers (normal_form cells) q ↔ Covers cells q
unfolding normal_form
covers_same cells q = (
  λ c. let h = (covers_where (is_covered cells) q).0 c in covers_from_test cells q (h.whole q h.from h.to),
  λ c.
      (covers_where (is_covered cells) q).1 (record {
        cell = c.cell;
        whole = λ x from to. test_from_covers cells x (record { cell = c.cell; held = c.held; from = from; to = to });
        from = c.from;
        to = c.to;
      }),
)

pub form_normal : (cells : List CellId) → IsNormal (normal_form cells)
unfolding normal_form
form_normal cells = where_normal (is_covered cells)

pub form_same_region : (cells : List CellId) → HaveSameRegion (normal_form cells) cells
form_same_region cells = same_leaves (normal_form cells) cells (covers_same cells)

-- a normal list with the region of some cells is their normal form
pub form_by_region : (xs cells : List CellId) → IsNormal xs → HaveSameRegion xs cells → xs ≡ normal_form cells
form_by_region xs cells normal same =
    one_normal xs (normal_form cells) normal (form_normal cells) (λ leaf deep.
    (λ i. (form_same_region cells leaf deep).1 ((same leaf deep).0 i), λ i. (same leaf deep).1 ((form_same_region cells leaf deep).0 i)))

-- a normal list is its own normal form
pub form_itself : (cells : List CellId) → IsNormal cells → normal_form cells ≡ cells
form_itself cells normal = sym (form_by_region cells cells normal (λ leaf deep. (λ i. i, λ i. i)))

-- the normal form tells the region alone
pub one_form : (xs ys : List CellId) → HaveSameRegion xs ys → normal_form xs ≡ normal_form ys
one_form xs ys same =
    form_by_region (normal_form xs) ys (form_normal xs) (λ leaf deep.
    (λ i. (same leaf deep).0 ((form_same_region xs leaf deep).0 i), λ i. (form_same_region xs leaf deep).1 ((same leaf deep).1 i)))
