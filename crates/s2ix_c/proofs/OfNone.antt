-- Calls on no cells, on no leaves, and on cells of which one is wrong or for which memory is wanted.
use Rattle.std.proofs.Common.{◌≡◌, ◌≢◌, ◌≤◌, ◌∙◌, ℕ, Bool, true, false, List, [], ◌∷◌, ◌++◌, length, map, refl, sym, ap, subst, inl, inr, arith, IsTrue}
use Rattle.std.specs.Prelude.{◌&&◌, ◌||◌, ◌==◌, not, nat_le, nat_lt}
use Rattle.std.proofs.lemmas.Bool.{and_parts, both_ways, cases_eq, or_cases}
use Rattle.s2id_core.specs.declared.cell_id.CellId.{CellId}
use Rattle.s2id_core.specs.Cell.{IsCellNumber}
use Rattle.s2id_core.specs.CellId.{raw_of}
use Rattle.s2id_core.specs.Path.{Path, number_of, path_at, first_leaf}
use Rattle.s2id_core.proofs.Lists.{none_in_nil}
use Rattle.s2id_core.proofs.Numbers.{path_of_cell}
use Rattle.s2id_core.proofs.Spans.{leaf_of_first}
use Rattle.s2id_union.specs.Covers.{Covers}
use Rattle.s2id_union.specs.NormalForm.{cells_where, is_covered, normal_form}
use Rattle.s2id_union.specs.Range.{IsLeafRange}
use Rattle.s2id_union.specs.Region.{HasAllOf, IsLeafList, Meets}
use Rattle.s2id_union.proofs.Covering.{covers_from_region, covers_nil}
use Rattle.s2id_union.proofs.NormalForm.{covers_from_test}
use Rattle.s2ix_c_calls.specs.Asked.{AreAllCells, AreCells, IsFirstNoCell, LacksUnion}
use Rattle.s2ix_c_calls.specs.Status.{done, no_cell, out_of_memory}
use Rattle.s2ix_c_calls.proofs.NoCells.{no_normal, no_span, none_where, put_nothing}
use Rattle.s2ix_c_calls.proofs.OfNumbers.{all_of_both, lacks_cell}
use Rattle.s2ix_c.specs.CellUnions.{CountsLeaves, Decides, ListsOfTwo, ListsSpan, numbers_by}

emptied : (ids : List ℕ) (cells : List CellId) → AreCells ids cells → length ids ≡ 0 → cells ≡ []
emptied ids [] are none = refl
emptied ids (c ∷ cs) are none = absurd (omega (arith, ap length are, none))

pub are_some : (ids : List ℕ) → (length ids == 0) ≡ false → ids ≢ []
are_some ids some none = both_ways (length ids == 0) some (ap (λ (l : List ℕ). length l == 0) none)

-- ---- a span of no leaves

pub no_leaves : (start limit : ℕ) (old : List ℕ) → IsLeafRange start limit → limit ≤ start → ListsSpan start limit done 0 old old
no_leaves start limit old range none =
    let rises = range.rises in
    let same : limit ≡ start = omega arith in
    inl (
      range,
      put_nothing old (map raw_of (cells_where (λ q. nat_le start q && nat_lt q limit)))
          (ap (λ n. map raw_of (cells_where (λ q. nat_le start q && nat_lt q n))) same ∙ ap (map raw_of) (no_span start)),
    )

-- ---- two unions

uncovered : (q : ℕ) → is_covered (normal_form []) q ≡ true → ⊥
uncovered q is = covers_nil q (subst (λ (l : List CellId). Covers l q) no_normal (covers_from_test (normal_form []) q is))

no_numbers : (test : Bool → Bool → Bool) (a b : List CellId)
    → ((q : ℕ) → test (is_covered (normal_form a) q) (is_covered (normal_form b) q) ≡ true → ⊥) → numbers_by test a b ≡ []
no_numbers test a b none =
    ap (map raw_of) (none_where (λ q. test (is_covered (normal_form a) q) (is_covered (normal_form b) q)) none)

-- no leaf is one of both unions, or of the first without the second, if the first has none; or of both, if the second has none
pub none_of_both : (a b : List CellId) → a ≡ [] → numbers_by (λ x y. x && y) a b ≡ []
none_of_both a b none =
    ap (λ (l : List CellId). numbers_by (λ x y. x && y) l b) none
    ∙ no_numbers (λ x y. x && y) [] b (λ q is. uncovered q (and_parts (is_covered (normal_form []) q) (is_covered (normal_form b) q) is).0)

pub none_of_both_second : (a b : List CellId) → b ≡ [] → numbers_by (λ x y. x && y) a b ≡ []
none_of_both_second a b none =
    ap (λ (l : List CellId). numbers_by (λ x y. x && y) a l) none
    ∙ no_numbers (λ x y. x && y) a [] (λ q is. uncovered q (and_parts (is_covered (normal_form a) q) (is_covered (normal_form []) q) is).1)

pub none_of_first : (a b : List CellId) → a ≡ [] → numbers_by (λ x y. x && not y) a b ≡ []
none_of_first a b none =
    ap (λ (l : List CellId). numbers_by (λ x y. x && not y) l b) none
    ∙ no_numbers (λ x y. x && not y) [] b (λ q is. uncovered q (and_parts (is_covered (normal_form []) q) (not (is_covered (normal_form b) q)) is).0)

pub none_of_either : (a b : List CellId) → a ≡ [] → b ≡ [] → numbers_by (λ x y. x || y) a b ≡ []
none_of_either a b first second =
    ap (λ (l : List CellId). numbers_by (λ x y. x || y) l b) first ∙ ap (λ (l : List CellId). numbers_by (λ x y. x || y) [] l) second
    ∙ no_numbers (λ x y. x || y) [] [] (λ q is.
    elim (or_cases (is_covered (normal_form []) q) (is_covered (normal_form []) q) is) [
      | inl one ↦ uncovered q one
      | inr other ↦ uncovered q other
    ])

module _ (list : List CellId → List CellId → List ℕ) (first second old : List ℕ) (status number : ℕ) where
  pub two_checked : (status ≡ done → (number ≡ 0) × AreAllCells first × AreAllCells second)
      → (status ≢ done → (status ≡ no_cell) × IsFirstNoCell (first ++ second) number)
      → ((a b : List CellId) → (length first ≡ 0 → a ≡ []) → (length second ≡ 0 → b ≡ []) → list a b ≡ [])
      → ListsOfTwo list first second status number old old
  two_checked right wrong none =
      elim (cases_eq status done) [
        | inl is_done ↦
            let all = right is_done in
            let a = all.1 in
            let b = all.2 in
            let nothing = none a.0 b.0 (emptied first a.0 a.1) (emptied second b.0 b.1) in
            subst (λ (s : ℕ). ListsOfTwo list first second s number old old) (sym is_done)
            (subst (λ (n : ℕ). ListsOfTwo list first second done n old old) (sym all.0)
            (inl (a.0, b.0, a.1, b.1, put_nothing old (list a.0 b.0) nothing)))
        | inr not_done ↦ inr (inl (wrong not_done), refl)
      ]

  pub two_want : status ≡ out_of_memory → number ≡ 0 → (a b : List CellId) → AreCells first a → AreCells second b
      → ListsOfTwo list first second status number old old
  two_want wanted zero a b are_first are_second =
      inr (inr (wanted, zero, all_of_both first second (a, are_first) (b, are_second)), refl)

-- ---- questions about a union and a cell

pub has_none : (id : ℕ) → IsCellNumber id → HasAllOf [] (path_at id) → ⊥
has_none id valid all =
    let leaf = first_leaf (path_at id) in
    covers_nil (number_of leaf) (covers_from_region [] leaf (all leaf (leaf_of_first (path_at id) (path_of_cell id valid))))

pub meets_none : (id : ℕ) → IsCellNumber id → Meets [] (path_at id) → ⊥
meets_none id valid meets = covers_nil (number_of meets.0) (covers_from_region [] meets.0 meets.2)

not_true : IsTrue false → ⊥
not_true e = both_ways false refl e

pub decides_none : (P : List CellId → Path → Type 0) (ids : List ℕ) (id : ℕ) → IsCellNumber id → length ids ≡ 0
    → (P [] (path_at id) → ⊥) → Decides P ids id done false
decides_none P [] id valid none never = inl (
  valid,
  [],
  refl,
  refl,
  (λ e. absurd (not_true e), λ holds. absurd (never (subst (λ (l : List CellId). P l (path_at id)) no_normal holds))),
)
decides_none P (x ∷ xs) id valid none never = absurd (omega (arith, none))

pub decides_refused : (P : List CellId → Path → Type 0) (ids : List ℕ) (id why place : ℕ) → IsCellNumber id → ids ≢ []
    → LacksUnion ids why place → Decides P ids id why false
decides_refused P ids id why place valid some (inl wrong) = inr (inl (inl (lacks_cell ids place wrong.1), wrong.0, not_true))
decides_refused P ids id why place valid some (inr memory) = inr (inr (valid, memory.2, some, memory.0, not_true))

-- ---- how many leaves

no_leaf_list : IsLeafList [] []
no_leaf_list = record {
  rises = λ i j d less within. absurd (omega arith);
  leaf = λ p held. absurd (none_in_nil p held);
  only = λ p held. absurd (none_in_nil p held);
  each = λ p leaf there. absurd (covers_nil (number_of p) (covers_from_region [] p there));
}

pub counts_none : (ids : List ℕ) → length ids ≡ 0 → CountsLeaves ids done 0
counts_none [] none = inl ([], refl, refl, [], subst (λ (l : List CellId). IsLeafList l []) (sym no_normal) no_leaf_list, refl)
counts_none (x ∷ xs) none = absurd (omega (arith, none))

pub counts_refused : (ids : List ℕ) (why place : ℕ) → ids ≢ [] → LacksUnion ids why place → CountsLeaves ids why 0
counts_refused ids why place some (inl wrong) = inr (inl (lacks_cell ids place wrong.1, wrong.0, refl))
counts_refused ids why place some (inr memory) = inr (inr (memory.2, some, memory.0, refl))
