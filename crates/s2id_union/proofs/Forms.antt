-- A normal list that covers what passes a test is the list of the largest cells that pass it.
use Rattle.std.proofs.Common.{◌≡◌, ◌↔◌, ℕ, inl, inr, List, [], Bool, true, not, sym, ◌∙◌, ap, subst}
use mathlib.Core.Path.{fun_ext}
use Rattle.std.specs.Prelude.{◌&&◌, ◌||◌, nat_le, nat_lt}
use Rattle.std.proofs.lemmas.Bool.{cases_Bool, and_parts, and_from, or_cases, or_left, or_right, not-true, not_from_false, both_ways, false_from_ne_true, leb-true, ltb-true, le-leb, lt-ltb}
use Rattle.s2id_core.specs.declared.cell_id.CellId.{CellId}
use Rattle.s2id_union.specs.Covers.{Covers}
use Rattle.s2id_union.specs.Loops.{IsAdded}
use Rattle.s2id_union.specs.NormalForm.{is_covered, cells_where, normal_form}
use Rattle.s2id_union.specs.Operation.{Keeps}
use Rattle.s2id_union.specs.Region.{IsNormal}
use Rattle.s2id_union.specs.declared.sweep.Operation.{Operation}
use Rattle.s2id_union.specs.declared.sweep.Operation.TheVariants.{Union, Difference}
use Rattle.s2id_union.proofs.Covering.{covers_nil}
use Rattle.s2id_union.proofs.Made.{normal_from_added}
use Rattle.s2id_union.proofs.NormalForm.{covers_from_test, test_from_covers, form_itself}

-- two tests that pass together answer alike
same_answer : (a b : Bool) → (a ≡ true) ↔ (b ≡ true) → a ≡ b
same_answer a b h =
    elim (cases_Bool a) [
      | inl e ↦ e ∙ sym (h.0 e)
      | inr f ↦ f ∙ sym (false_from_ne_true b (λ e. both_ways a f (h.1 e)))
    ]

form_by_test : (cells : List CellId) (passes : ℕ → Bool) → IsNormal cells → ((q : ℕ) → Covers cells q ↔ (passes q ≡ true))
    → cells ≡ cells_where passes
unfolding normal_form
form_by_test cells passes normal h =
    sym (form_itself cells normal) ∙ ap cells_where (fun_ext λ q. same_answer (is_covered cells q) (passes q) (λ e. (h q).0 (covers_from_test cells q e), λ e. test_from_covers cells q ((h q).1 e)))

-- ---- the set operations

abbrev pub keeps_both : Operation → Bool → Bool → Bool
keeps_both Union a b = a || b
keeps_both Difference a b = a && not b

test_from_keeps : (o : Operation) (xs ys : List CellId) (q : ℕ) → Keeps o (Covers xs q) (Covers ys q)
    → keeps_both o (is_covered xs q) (is_covered ys q) ≡ true
test_from_keeps Union xs ys q (inl x) = or_left (is_covered xs q) (is_covered ys q) (test_from_covers xs q x)
test_from_keeps Union xs ys q (inr y) = or_right (is_covered xs q) (is_covered ys q) (test_from_covers ys q y)
test_from_keeps Difference xs ys q (x, y) =
    and_from (is_covered xs q) (not (is_covered ys q)) (test_from_covers xs q x) (not_from_false (is_covered ys q) (false_from_ne_true (is_covered ys q) (λ e. y (covers_from_test ys q e))))

keeps_from_test : (o : Operation) (xs ys : List CellId) (q : ℕ) → keeps_both o (is_covered xs q) (is_covered ys q) ≡ true
    → Keeps o (Covers xs q) (Covers ys q)
keeps_from_test Union xs ys q e =
    elim (or_cases (is_covered xs q) (is_covered ys q) e) [ inl x ↦ inl (covers_from_test xs q x) | inr y ↦ inr (covers_from_test ys q y) ]
keeps_from_test Difference xs ys q e =
    let both = and_parts (is_covered xs q) (not (is_covered ys q)) e in
    (covers_from_test xs q both.0, λ y. both_ways (is_covered ys q) (not-true (is_covered ys q) both.1) (test_from_covers ys q y))

operation_form : (o : Operation) (xs ys cells : List CellId) → IsNormal cells
    → ((q : ℕ) → Covers cells q ↔ Keeps o (Covers xs q) (Covers ys q))
    → cells ≡ cells_where (λ q. keeps_both o (is_covered xs q) (is_covered ys q))
operation_form o xs ys cells normal h =
    form_by_test cells (λ q. keeps_both o (is_covered xs q) (is_covered ys q)) normal (λ q.
    (λ c. test_from_keeps o xs ys q ((h q).0 c), λ e. (h q).1 (keeps_from_test o xs ys q e)))

-- the same if the two lists are known under other names
pub swept_form : (o : Operation) (as_first as_second xs ys cells : List CellId) → xs ≡ as_first → ys ≡ as_second → IsNormal cells
    → ((q : ℕ) → Covers cells q ↔ Keeps o (Covers xs q) (Covers ys q))
    → cells ≡ cells_where (λ q. keeps_both o (is_covered as_first q) (is_covered as_second q))
swept_form o as_first as_second xs ys cells e f normal h =
    subst (λ x. cells ≡ cells_where (λ q. keeps_both o (is_covered x q) (is_covered as_second q))) e (subst (λ y. cells ≡ cells_where (λ q. keeps_both o (is_covered xs q) (is_covered y q))) f (operation_form o xs ys cells normal h))

-- ---- what two unions share

both_covered : (xs ys cells : List CellId) → IsNormal cells → ((q : ℕ) → Covers cells q ↔ (Covers xs q × Covers ys q))
    → cells ≡ cells_where (λ q. is_covered xs q && is_covered ys q)
both_covered xs ys cells normal h =
    form_by_test cells (λ q. is_covered xs q && is_covered ys q) normal (λ q. (
      λ c.
          let both = (h q).0 c in
          and_from (is_covered xs q) (is_covered ys q) (test_from_covers xs q both.0) (test_from_covers ys q both.1),
      λ e.
          let both = and_parts (is_covered xs q) (is_covered ys q) e in
          (h q).1 (covers_from_test xs q both.0, covers_from_test ys q both.1),
    ))

pub shared_form : (as_first as_second xs ys cells : List CellId) → xs ≡ as_first → ys ≡ as_second → IsNormal cells
    → ((q : ℕ) → Covers cells q ↔ (Covers xs q × Covers ys q)) → cells ≡ cells_where (λ q. is_covered as_first q && is_covered as_second q)
shared_form as_first as_second xs ys cells e f normal h =
    subst (λ x. cells ≡ cells_where (λ q. is_covered x q && is_covered as_second q)) e (subst (λ y. cells ≡ cells_where (λ q. is_covered xs q && is_covered y q)) f (both_covered xs ys cells normal h))

-- ---- a span of leaves

pub span_form : (old cells : List CellId) (start limit : ℕ) → old ≡ [] → IsAdded old cells start limit
    → cells ≡ cells_where (λ q. nat_le start q && nat_lt q limit)
span_form old cells start limit none h =
    form_by_test cells (λ q. nat_le start q && nat_lt q limit) (normal_from_added old cells start limit h) (λ q. (
      λ c. elim ((h.covers q).0 c) [
        | inl before ↦ absurd (covers_nil q (subst (λ xs. Covers xs q) none before))
        | inr span ↦ and_from (nat_le start q) (nat_lt q limit) (le-leb start q span.from) (lt-ltb q limit span.to)
      ],
      λ e.
          let both = and_parts (nat_le start q) (nat_lt q limit) e in
          (h.covers q).1 (inr (record { from = leb-true start q both.0; to = ltb-true q limit both.1 })),
    ))
