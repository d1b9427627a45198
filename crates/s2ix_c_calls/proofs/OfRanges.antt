-- A range as C sees it.
use Rattle.std.proofs.Common.{◌≡◌, ◌↔◌, ◌∙◌, ℕ, Bool, true, false, IsTrue, List, [], ◌∷◌, length, ap, sym, refl, arith, ne_eqb}
use Rattle.std.specs.Prelude.{◌==◌}
use Rattle.s2ix_table_walk.specs.Table.{Range}
use Rattle.s2ix_c_calls.specs.declared.ranges.LeafRange.{LeafRange}
use Rattle.s2ix_c_calls.specs.Ranges.{leaf_range_of}

pub empty_test : {A : Type 0} (test : Bool) (xs : List A) → IsTrue test ↔ (xs ≡ []) → test ≡ (length xs == 0)
empty_test true [] is = refl
empty_test true (x ∷ xs) is = absurd (omega (arith, ap length (is.0 refl)))
empty_test false [] is = is.1 refl
empty_test false (x ∷ xs) is = sym (ne_eqb (length (x ∷ xs)) 0 (λ none. omega arith))

abbrev row : ℕ → ℕ → Bool → LeafRange
row start limit is_empty = record { start = start; limit = limit; is_empty = is_empty }

pub same_range : (start limit : ℕ) (is_empty : Bool) (r : Range) → start ≡ r.start → limit ≡ r.limit → is_empty ≡ (length r.contents == 0)
    → row start limit is_empty ≡ leaf_range_of r
same_range start limit is_empty r starts ends empty =
    ap (λ s. row s limit is_empty) starts ∙ ap (λ l. row r.start l is_empty) ends ∙ ap (λ e. row r.start r.limit e) empty
