-- The cell that a number or a text names, as a function.
use Rattle.std.specs.Prelude.{◌≡◌, ℕ, ◌*◌, ◌-◌, ◌^◌, ◌==◌, ◌&&◌, nat_lt, nat_le, if◌then◌else◌, Bool, true, false, Option, Some, None, List, ◌++◌, length, replicate, refl}
use Rattle.std.specs.Char.{digit_value}
use Rattle.std.specs.Cmp.{first_so, second_so}
use Rattle.std.specs.List.{list_all}
use Rattle.std.specs.Str.Parse.{digits_value}
use Rattle.std.proofs.lemmas.Bool.{ltb-true, eqb-true}
use Rattle.s2id_core.specs.declared.cell_id.CellId.{CellId}
use Rattle.s2id_core.specs.Cell.{IsCellNumber}
use Rattle.s2id_core.specs.Path.{number_of, path_at}

-- whether a number is a cell's
abbrev pub is_cell_number : ℕ → Bool
is_cell_number n = nat_lt n (6 * 2 ^ 61) && nat_lt 0 n && (number_of (path_at n) == n)

pub IsCellNumber-from_test : (n : ℕ) → is_cell_number n ≡ true → IsCellNumber n
IsCellNumber-from_test n h =
    let below = nat_lt n (6 * 2 ^ 61) in
    let some = nat_lt 0 n in
    let both = first_so (below && some) (number_of (path_at n) == n) h in (
      ltb-true n (6 * 2 ^ 61) (first_so below some both),
      ltb-true 0 n (second_so below some both),
      eqb-true (number_of (path_at n)) n (second_so (below && some) (number_of (path_at n) == n) h),
    )

-- the cell with this number, if it is a cell's
unfoldable pub cell_numbered : ℕ → Option CellId
cell_numbered n =
    elim (is_cell_number n) as (λ b. is_cell_number n ≡ b → Option CellId) [
      | true ↦ λ h. Some (record { raw = n; valid = IsCellNumber-from_test n h })
      | false ↦ λ _. None
    ] refl

-- whether a text has 1 to 16 bytes, each a hexadecimal digit of either case
abbrev pub is_hexadecimal : List ℕ → Bool
is_hexadecimal text = nat_lt 0 (length text) && nat_le (length text) 16 && list_all (λ byte. nat_lt (digit_value byte) 16) text

-- the cell that a text spells, if it spells one
unfoldable pub cell_spelled : List ℕ → Option CellId
cell_spelled text =
    if is_hexadecimal text then cell_numbered (digits_value 16 (text ++ replicate (16 - length text) 48)) else None
