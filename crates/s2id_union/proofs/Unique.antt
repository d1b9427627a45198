-- A region has one normal list.
use Rattle.std.proofs.Common.{◌≡◌, ℕ, zero, suc, ◌+◌, ◌<◌, ◌⊎◌, inl, inr, List, [], ◌∷◌, ◌++◌, length, ◌-◌, sym, ◌∙◌, ap, ap₂, refl, arith, Any, AllPairs, Contains, subst}
use Rattle.std.proofs.lemmas.Bool.{cases_lt}
use Rattle.std.proofs.lemmas.List.{length_push, take_all, take_at, take-append-le}
use Rattle.s2id_core.specs.declared.cell_id.CellId.{CellId}
use Rattle.s2id_core.specs.CellId.{raw_of, path_of}
use Rattle.s2id_core.specs.Path.{Path, IsPath, ancestor, child}
use Rattle.s2id_core.specs.Leaves.{IsLeafOf, IsWithin}
use Rattle.s2id_core.specs.Span.{IsNested}
use Rattle.s2id_core.proofs.Ancestry.{length-child, IsPath-child}
use Rattle.s2id_core.proofs.Numbers.{path_of_cell}
use Rattle.s2id_core.proofs.Levels.{ancestor_itself}
use Rattle.s2id_core.proofs.Spans.{leaves_from_within}
use Rattle.s2id_core.proofs.Nested.{nested_from_within, within_from_nested, same_span}
use Rattle.s2id_core.proofs.Cells.{same_cell}
use Rattle.s2id_union.specs.Region.{IsNormal, HaveSameRegion, HasAllOf}
use Rattle.s2id_core.proofs.Lists.{head_pairs, tail_pairs, cons_cases, in_tail, at_head, none_in_nil}

-- ---- children

with_digits : ℕ → List ℕ → Path
with_digits f ds = record { face = f; digits = ds }

pub child_within : (d : ℕ) (p : Path) → IsWithin (child d p) p
unfolding child ancestor with_digits
child_within d p = ap (with_digits p.face) (take_at p.digits (d ∷ []) (length p.digits) refl)

-- what a child lies within is the child, or the parent lies within it too
pub within_child : (d : ℕ) (p q : Path) → IsWithin (child d p) q → IsWithin p q ⊎ (q ≡ child d p)
unfolding child ancestor with_digits
within_child d p q w =
    elim (cases_lt (length p.digits) (length q.digits)) [
      | inl h ↦ inr (sym w ∙ ap (with_digits p.face) (take_all (length q.digits) (p.digits ++ d ∷ []) (let e = length_push p.digits d in omega arith)))
      | inr h ↦ inl (ap (with_digits p.face) (sym (take-append-le (length q.digits) p.digits (d ∷ []) h)) ∙ w)
    ]

-- ---- whole cells in a region

-- the cells that a cell lies within, in a list
abbrev pub HasAround : List CellId → Path → Type 0
HasAround cells p = Any (λ c. IsWithin p (path_of c)) cells

abbrev pub HasChild : List CellId → ℕ → Path → Type 0
HasChild cells d p = Any (λ c. path_of c ≡ child d p) cells

around_or_child : (cells : List CellId) (d : ℕ) (p : Path) → HasAround cells (child d p) → HasAround cells p ⊎ HasChild cells d p
around_or_child cells d p a =
    elim (within_child d p (path_of a.1) a.4) [ inl w ↦ inl (a.0, a.1, a.2, a.3, w) | inr e ↦ inr (a.0, a.1, a.2, a.3, e) ]

four : (cells : List CellId) (p : Path) → HasChild cells 0 p → HasChild cells 1 p → HasChild cells 2 p → HasChild cells 3 p → (d : ℕ)
    → d < 4 → HasChild cells d p
four cells p a b c e zero h = a
four cells p a b c e (suc zero) h = b
four cells p a b c e (suc (suc zero)) h = c
four cells p a b c e (suc (suc (suc zero))) h = e
four cells p a b c e (suc (suc (suc (suc d)))) h = absurd (omega arith)

-- a cell whose leaves are all in the region of a normal list lies within one of its cells
pub around_by_height : (h : ℕ) (cells : List CellId) → IsNormal cells → (p : Path) → IsPath p → length p.digits + h ≡ 30 → HasAllOf cells p
    → HasAround cells p
around_by_height zero cells normal p path level all =
    let itself : IsLeafOf p p = record { deep = record { path = path; deep = omega arith }; within = ancestor_itself p } in
    let a = all p itself in
    (a.0, a.1, a.2, a.3, a.4.within)
around_by_height (suc h) cells normal p path level all =
    let each = λ (d : ℕ) (small : d < 4). around_or_child cells d p (around_by_height h cells normal (child d p) (IsPath-child d p path (omega arith) small) (let e = length-child d p in omega arith) (λ l i. all l (leaves_from_within (child d p) p (child_within d p) (let e = length-child d p in omega arith) l i))) in
    elim (each 0 (omega arith)) [
      | inl a ↦ a
      | inr c0 ↦
          elim (each 1 (omega arith)) [
            | inl a ↦ a
            | inr c1 ↦
                elim (each 2 (omega arith)) [
                  | inl a ↦ a
                  | inr c2 ↦ elim (each 3 (omega arith)) [ inl a ↦ a | inr c3 ↦ absurd (normal.no_four p (four cells p c0 c1 c2 c3)) ]
                ]
          ]
    ]

pub around_from_all : (cells : List CellId) → IsNormal cells → (p : Path) → IsPath p → HasAllOf cells p → HasAround cells p
around_from_all cells normal p path all =
    around_by_height (30 - length p.digits) cells normal p path (let m = path.at_most in omega arith) all

-- ---- two normal lists

nested : (a b : CellId) → IsWithin (path_of a) (path_of b) → IsNested (raw_of a) (raw_of b)
nested a b w = nested_from_within (raw_of a) (raw_of b) a.valid b.valid w

pub in_region_of : (xs : List CellId) (c : CellId) → Contains xs c → HasAllOf xs (path_of c)
in_region_of xs c held l i = (held.0, c, held.1, held.2, i)

-- each cell of the one list is in the other
moved : (xs ys : List CellId) → IsNormal xs → IsNormal ys → HaveSameRegion xs ys → (c : CellId) → Contains xs c → Contains ys c
moved xs ys nx ny same c held =
    let out = around_from_all ys ny (path_of c) (path_of_cell (raw_of c) c.valid) (λ l i. (same l i.deep).0 (in_region_of xs c held l i)) in
    let b = out.1 in
    let held_b : Contains ys b = (out.0, out.2, out.3) in
    let back = around_from_all xs nx (path_of b) (path_of_cell (raw_of b) b.valid) (λ l i. (same l i.deep).1 (in_region_of ys b held_b l i)) in
    let a = back.1 in
    let held_a : Contains xs a = (back.0, back.2, back.3) in
    let c_b = nested c b out.4 in
    let b_a = nested b a back.4 in
    let c_a : IsNested (raw_of c) (raw_of a) = record { from = omega arith; to = omega arith } in
    let e : c ≡ a = nx.apart c a held held_a (within_from_nested (raw_of c) (raw_of a) c.valid a.valid c_a) in
    let b_c : IsNested (raw_of b) (raw_of c) = subst (λ (x : CellId). IsNested (raw_of b) (raw_of x)) (sym e) b_a in
    let f : b ≡ c = same_cell b c (same_span (raw_of b) (raw_of c) b.valid c.valid (omega arith) (omega arith)) in
    subst (Contains ys) f held_b

-- the numbers of the cells rise strictly
abbrev pub Rises : List CellId → Type 0
Rises = AllPairs (λ a b. raw_of a < raw_of b)

-- lists that rise strictly and have the same cells are equal
pub same_rising : (xs ys : List CellId) → Rises xs → Rises ys → ((c : CellId) → Contains xs c → Contains ys c)
    → ((c : CellId) → Contains ys c → Contains xs c) → xs ≡ ys
same_rising [] [] rx ry to back = refl
same_rising [] (y ∷ ys) rx ry to back = absurd (none_in_nil y (back y (at_head y ys)))
same_rising (x ∷ xs) [] rx ry to back = absurd (none_in_nil x (to x (at_head x xs)))
same_rising (x ∷ xs) (y ∷ ys) rx ry to back =
    let R : CellId → CellId → Type 0 = λ a b. raw_of a < raw_of b in
    let e : x ≡ y = elim (cons_cases y ys x (to x (at_head x xs))) [
      | inl e ↦ sym e
      | inr i ↦
          elim (cons_cases x xs y (back y (at_head y ys))) [
            | inl e ↦ e
            | inr j ↦ absurd (let a = head_pairs R y ys ry x i in let b = head_pairs R x xs rx y j in omega arith)
          ]
    ] in
    let n = ap (λ (c : CellId). raw_of c) e in
    let there : (c : CellId) → Contains xs c → Contains ys c = λ c h. elim (cons_cases y ys c (to c (in_tail x xs c h))) [
      | inl f ↦ absurd (let a = head_pairs R x xs rx c h in let m = ap (λ (c : CellId). raw_of c) f in omega arith)
      | inr i ↦ i
    ] in
    let here : (c : CellId) → Contains ys c → Contains xs c = λ c h. elim (cons_cases x xs c (back c (in_tail y ys c h))) [
      | inl f ↦ absurd (let a = head_pairs R y ys ry c h in let m = ap (λ (c : CellId). raw_of c) f in omega arith)
      | inr i ↦ i
    ] in
    ap₂ (λ (c : CellId) cs. c ∷ cs) e (same_rising xs ys (tail_pairs R x xs rx) (tail_pairs R y ys ry) there here)

pub one_normal : (xs ys : List CellId) → IsNormal xs → IsNormal ys → HaveSameRegion xs ys → xs ≡ ys
one_normal xs ys nx ny same =
    same_rising xs ys nx.rises ny.rises (moved xs ys nx ny same) (moved ys xs ny nx (λ l d. ((same l d).1, (same l d).0)))
