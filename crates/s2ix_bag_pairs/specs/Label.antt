-- Words on a label.
use Rattle.std.specs.Prelude.{◌≡◌, ℕ, ◌≤◌, nat_le, true, false, Option, Some, None, refl}
use Rattle.std.proofs.Common.{leb-true}
use Rattle.s2ix_bag_pairs.specs.declared.label.Label.{Label}

-- the label's number
abbrev pub value_of : Label → ℕ
value_of label = label.value

pub in_range-from_test : (n : ℕ) → nat_le n 2147483647 ≡ true → n ≤ 2147483647
in_range-from_test n h = leb-true n 2147483647 h

-- the label with this number, if it is in range
abbrev pub label_numbered : ℕ → Option Label
label_numbered n =
    elim (nat_le n 2147483647) as (λ b. nat_le n 2147483647 ≡ b → Option Label) [
      | true ↦ λ h. Some (record { value = n; in_range = in_range-from_test n h })
      | false ↦ λ _. None
    ] refl
