-- The label with a number.
use Rattle.std.proofs.Common.{◌≡◌, ℕ, ◌≤◌, ◌<◌, Bool, true, false, Option, Some, None, refl, ap, sym, arith}
use Rattle.std.specs.Prelude.{nat_le}
use Rattle.std.proofs.lemmas.Bool.{both_ways, le-leb, leb-true}
use Rattle.std.proofs.Math.Bridge.{le_prop}
use Rattle.s2ix_bag_pairs.specs.declared.label.Label.{Label}
use Rattle.s2ix_bag_pairs.specs.Label.{label_numbered, in_range-from_test}

numbered_at : (n : ℕ) (h : n ≤ 2147483647) (b : Bool) (e : nat_le n 2147483647 ≡ b) →
    (elim b as (λ b. nat_le n 2147483647 ≡ b → Option Label) [
      | true ↦ λ t. Some (record { value = n; in_range = in_range-from_test n t })
      | false ↦ λ _. None
    ]) e ≡ Some (record { value = n; in_range = h })
numbered_at n h true e = ap (λ (v : n ≤ 2147483647). Some (record { value = n; in_range = v })) (le_prop (in_range-from_test n e) h)
numbered_at n h false e = absurd (both_ways (nat_le n 2147483647) e (le-leb n 2147483647 h))

-- a number in range has its label
pub label_numbered-in_range : (n : ℕ) (h : n ≤ 2147483647) → Some (record { value = n; in_range = h }) ≡ label_numbered n
label_numbered-in_range n h = sym (numbered_at n h (nat_le n 2147483647) refl)

none_at : (n : ℕ) → 2147483647 < n → (b : Bool) (e : nat_le n 2147483647 ≡ b) →
    None ≡ (elim b as (λ b. nat_le n 2147483647 ≡ b → Option Label) [
      | true ↦ λ t. Some (record { value = n; in_range = in_range-from_test n t })
      | false ↦ λ _. None
    ]) e
none_at n h true e = let low : n ≤ 2147483647 = leb-true n 2147483647 e in absurd (omega arith)
none_at n h false e = refl

-- a number above the range has none
pub label_numbered-above : (n : ℕ) → 2147483647 < n → None ≡ label_numbered n
label_numbered-above n h = none_at n h (nat_le n 2147483647) refl
