-- The normal list of a region has no more cells than any other list with the region.
use Rattle.std.proofs.Common.{◌≡◌, ℕ, zero, suc, ◌+◌, ◌<◌, ◌≤◌, ◌==◌, Bool, true, false, not, List, [], ◌∷◌, length, filter, get_or, Contains, refl, sym, ap, ◌∙◌, subst, ⊎_elim, arith, eq-eqb, ne_eqb}
use Rattle.std.proofs.lemmas.Bool.{cases_Bool, cond-false, cond-true}
use Rattle.std.proofs.lemmas.List.Filters.{length-filter_both}
use Rattle.s2id_core.specs.declared.cell_id.CellId.{CellId}
use Rattle.s2id_core.specs.CellId.{raw_of, path_of}
use Rattle.s2id_core.specs.Leaves.{IsLeafOf, IsWithin}
use Rattle.s2id_core.specs.Path.{Path, first_leaf}
use Rattle.s2id_core.proofs.Cells.{same_cell}
use Rattle.s2id_core.proofs.Spans.{leaf_of_first, leaves_iff_within, nested_from_overlap}
use Rattle.s2id_union.specs.NormalForm.{normal_form}
use Rattle.s2id_union.specs.Region.{IsNormal}
use Rattle.s2id_union.proofs.Largest.{kept}
use Rattle.s2id_core.proofs.Lists.{at_head, head_pairs, in_tail, tail_pairs}
use Rattle.s2id_union.proofs.NormalForm.{form_normal, form_same_region}
use Rattle.s2id_union.proofs.Unique.{Rises, around_from_all, in_region_of}
use Rattle.s2ix_edit_plan.proofs.Beside.{pathed}

-- ---- lists of which one has a cell of its own for each of the other

-- a part of a list is no longer, and shorter if one is left out
few_kept : (test : CellId → Bool) (xs : List CellId) → length (filter test xs) ≤ length xs
few_kept test xs = omega (arith, length-filter_both test (λ x. not (test x)) (λ x. refl) xs)

one_less : (test : CellId → Bool) (xs : List CellId) (x : CellId) (k : ℕ) → k < length xs → get_or xs k x ≡ x → test x ≡ false
    → length (filter test xs) + 1 ≤ length xs
one_less test [] x k lt is out = absurd (omega (arith, lt))
one_less test (y ∷ xs) x zero lt is out =
    let rest = ap length (cond-false (test y) (y ∷ filter test xs) (filter test xs) (ap test is ∙ out)) in
    omega (arith, rest, few_kept test xs)
one_less test (y ∷ xs) x (suc k) lt is out =
    let rest = one_less test xs x k (omega (arith, lt)) is out in
    ⊎_elim
    (λ yes. let whole = ap length (cond-true (test y) (y ∷ filter test xs) (filter test xs) yes) in omega (arith, whole, rest))
    (λ fails. let part = ap length (cond-false (test y) (y ∷ filter test xs) (filter test xs) fails) in omega (arith, part, rest))
    (cases_Bool (test y))

one_each : (R : CellId → CellId → Type 0) (ns ds : List CellId) → Rises ns
    → ((n : CellId) → Contains ns n → (d : CellId) × Contains ds d × R n d) → ((n m d : CellId) → R n d → R m d → n ≡ m)
    → length ns ≤ length ds
one_each R [] ds rises each one = omega arith
one_each R (n ∷ ns) ds rises each one =
    let Less : CellId → CellId → Type 0 = λ a b. raw_of a < raw_of b in
    let own = each n (at_head n ns) in
    let test : CellId → Bool = λ x. not (raw_of x == raw_of own.0) in
    let out : test own.0 ≡ false = ap not (eq-eqb (raw_of own.0) (raw_of own.0) refl) in
    let place = own.1 in
    let fewer = one_less test ds own.0 place.0 place.1 place.2 out in
    let others = λ (m : CellId) (held : Contains ns m).
    let found = each m (in_tail n ns m held) in
    let Found : CellId → Type 0 = λ d. R m d in
    let apart : test found.0 ≡ true = ap not (ne_eqb (raw_of found.0) (raw_of own.0)
    (λ e.
    let same = one n m own.0 own.2 (subst Found (same_cell found.0 own.0 e) found.2) in
    let less : raw_of n < raw_of m = head_pairs Less n ns rises m held in
    absurd (omega (arith, less, ap (λ (c : CellId). raw_of c) same)))) in
    let there : (d : CellId) × Contains (filter test ds) d × R m d = (found.0, kept test ds found.0 found.1 apart, found.2) in
    there in
    let rest = one_each R ns (filter test ds) (tail_pairs Less n ns rises) others one in
    omega (arith, fewer, rest)

-- ---- normal lists

-- two cells of a normal list that share a leaf are one
one_around : (ns : List CellId) (n m : CellId) (leaf : Path) → IsNormal ns → Contains ns n → Contains ns m → IsLeafOf leaf (path_of n)
    → IsLeafOf leaf (path_of m) → n ≡ m
one_around ns n m leaf normal held_n held_m in_n in_m =
    ⊎_elim
    (λ within. normal.apart n m held_n held_m within)
    (λ within. sym (normal.apart m n held_m held_n within))
    (nested_from_overlap (path_of n) (path_of m) (pathed n) (pathed m) (leaf, in_n, in_m))

-- a cell of the list that has another within it
record IsAround (ns : List CellId) (n d : CellId) : Type 0 where
  held : Contains ns n
  within : IsWithin (path_of d) (path_of n)

leaf_through : (d n : CellId) (leaf : Path) → IsWithin (path_of d) (path_of n) → IsLeafOf leaf (path_of d) → IsLeafOf leaf (path_of n)
leaf_through d n leaf within leaf_is = (leaves_iff_within (path_of d) (path_of n) (pathed d) (pathed n)).1 within leaf leaf_is

around_one : (ns : List CellId) (n m d : CellId) → IsNormal ns → IsAround ns n d → IsAround ns m d → n ≡ m
around_one ns n m d normal first second =
    let leaf = first_leaf (path_of d) in
    let leaf_is = leaf_of_first (path_of d) (pathed d) in
    one_around ns n m leaf normal first.held second.held (leaf_through d n leaf first.within leaf_is)
    (leaf_through d m leaf second.within leaf_is)

-- each cell of the normal list has one of the cells within it
has_one : (ds : List CellId) (n : CellId) → Contains (normal_form ds) n → (d : CellId) × Contains ds d × IsAround (normal_form ds) n d
has_one ds n held =
    let ns = normal_form ds in
    let normal = form_normal ds in
    let same = form_same_region ds in
    let leaf = first_leaf (path_of n) in
    let leaf_is = leaf_of_first (path_of n) (pathed n) in
    let in_one = (same leaf leaf_is.deep).0 (in_region_of ns n held leaf leaf_is) in
    let d = in_one.1 in
    let held_d : Contains ds d = (in_one.0, in_one.2, in_one.3) in
    let out = around_from_all ns normal (path_of d) (pathed d) (λ l i. (same l i.deep).1 (in_region_of ds d held_d l i)) in
    let held_out : Contains ns out.1 = (out.0, out.2, out.3) in
    let is : out.1 ≡ n = one_around ns out.1 n leaf normal held_out held (leaf_through d out.1 leaf out.4 in_one.4) leaf_is in
    let Within : CellId → Type 0 = λ c. IsWithin (path_of d) (path_of c) in
    let around : IsAround ns n d = record { held = held; within = subst Within is out.4 } in
    (d, held_d, around)

pub fewest_cells : (ds : List CellId) → length (normal_form ds) ≤ length ds
fewest_cells ds =
    let ns = normal_form ds in
    let normal = form_normal ds in
    one_each (IsAround ns) ns ds normal.rises (has_one ds) (λ n m d first second. around_one ns n m d normal first second)
