-- The cell that a text spells is the one whose number it spells.
use Rattle.std.proofs.Common.{◌≡◌, ℕ, ◌-◌, ◌++◌, Bool, true, false, Option, Some, None, Result, Ok, Err, List, length, refl, ap, sym, ◌∙◌, arith}
use Rattle.std.specs.Prelude.{replicate, IfOk, ◌&&◌, if◌then◌else◌, nat_lt, nat_le, [], ◌∷◌}
use Rattle.std.specs.Result.{result_ok}
use Rattle.std.specs.Str.Parse.{digits_value, AllDigits}
use Rattle.std.proofs.lemmas.Bool.Decides.{nat_tests}
use Rattle.std.specs.List.{list_all}
use Rattle.std.specs.Char.{digit_value}
use Rattle.std.proofs.lemmas.Bool.{both_ways, lt-ltb, ltb-true, le-leb, leb-true}
use Rattle.std.specs.Cmp.Derive.{both_true}
use Rattle.s2id_core.proofs.Cells.{IsCellNumber-prop}
use Rattle.std.specs.Cmp.{first_so, second_so}
use Rattle.s2id_core.specs.declared.cell_id.CellId.{CellId}
use Rattle.s2id_core.specs.Cell.{IsCellNumber}
use Rattle.s2id_core.specs.CellId.{raw_of}
use Rattle.s2id_core.specs.Spelled.{is_cell_number, IsCellNumber-from_test, cell_numbered, is_hexadecimal, cell_spelled}
use Rattle.s2id_core.specs.Token.{Spells}

is_cell_number-true : (n : ℕ) → IsCellNumber n → is_cell_number n ≡ true
is_cell_number-true n h = grind (arith, nat_tests, h.0, h.1, h.2)

numbered_at : (n : ℕ) (h : IsCellNumber n) (b : Bool) (e : is_cell_number n ≡ b) →
    (elim b as (λ b. is_cell_number n ≡ b → Option CellId) [
      | true ↦ λ t. Some (record { raw = n; valid = IsCellNumber-from_test n t })
      | false ↦ λ _. None
    ]) e ≡ Some (record { raw = n; valid = h })
numbered_at n h true e = ap (λ (v : IsCellNumber n). Some (record { raw = n; valid = v })) (IsCellNumber-prop n (IsCellNumber-from_test n e) h)
numbered_at n h false e = absurd (both_ways (is_cell_number n) e (is_cell_number-true n h))

pub numbered : (n : ℕ) (h : IsCellNumber n) → cell_numbered n ≡ Some (record { raw = n; valid = h })
unfolding cell_numbered
numbered n h = numbered_at n h (is_cell_number n) refl

numbered-raw_at : (n : ℕ) (c : CellId) (b : Bool) (e : is_cell_number n ≡ b) →
    (elim b as (λ b. is_cell_number n ≡ b → Option CellId) [
      | true ↦ λ t. Some (record { raw = n; valid = IsCellNumber-from_test n t })
      | false ↦ λ _. None
    ]) e ≡ Some c → n ≡ raw_of c
numbered-raw_at n c true e h = let same : record { raw = n; valid = IsCellNumber-from_test n e } ≡ c = cc in ap raw_of same
numbered-raw_at n c false e h = cc

pub numbered-raw : (n : ℕ) (c : CellId) → cell_numbered n ≡ Some c → n ≡ raw_of c
unfolding cell_numbered
numbered-raw n c h = numbered-raw_at n c (is_cell_number n) refl h

digits_all : (text : List ℕ) → AllDigits 16 text → list_all (λ byte. nat_lt (digit_value byte) 16) text ≡ true
digits_all [] h = refl
digits_all (b ∷ text) h = both_true (lt-ltb (digit_value b) 16 h.0) (digits_all text h.1)

all_digits : (text : List ℕ) → list_all (λ byte. nat_lt (digit_value byte) 16) text ≡ true → AllDigits 16 text
all_digits [] h = tt
all_digits (b ∷ text) h = (
  ltb-true (digit_value b) 16 (first_so (nat_lt (digit_value b) 16) (list_all (λ byte. nat_lt (digit_value byte) 16) text) h),
  all_digits text (second_so (nat_lt (digit_value b) 16) (list_all (λ byte. nat_lt (digit_value byte) 16) text) h),
)

pub cell_spelled-some : (text : List ℕ) (c : CellId) → Spells text (raw_of c) → cell_spelled text ≡ Some c
unfolding cell_spelled
cell_spelled-some text c h =
    let hex : is_hexadecimal text ≡ true = both_true (both_true (lt-ltb 0 (length text) h.some) (le-leb (length text) 16 h.at_most)) (digits_all text h.digits) in
    let named : cell_numbered (digits_value 16 (text ++ replicate (16 - length text) 48)) ≡ Some c = ap cell_numbered h.value ∙ numbered (raw_of c) c.valid in
    ap (λ b. if b then cell_numbered (digits_value 16 (text ++ replicate (16 - length text) 48)) else None) hex ∙ named

spells_at : (text : List ℕ) (c : CellId) (b : Bool) → is_hexadecimal text ≡ b →
    (if b then cell_numbered (digits_value 16 (text ++ replicate (16 - length text) 48)) else None) ≡ Some c → Spells text (raw_of c)
spells_at text c true e h =
    let all = list_all (λ byte. nat_lt (digit_value byte) 16) text in
    let few = first_so (nat_lt 0 (length text) && nat_le (length text) 16) all e in record {
      some = ltb-true 0 (length text) (first_so (nat_lt 0 (length text)) (nat_le (length text) 16) few);
      at_most = leb-true (length text) 16 (second_so (nat_lt 0 (length text)) (nat_le (length text) 16) few);
      digits = all_digits text (second_so (nat_lt 0 (length text) && nat_le (length text) 16) all e);
      value = numbered-raw (digits_value 16 (text ++ replicate (16 - length text) 48)) c h;
    }
spells_at text c false e h = cc

pub Spells-from_cell_spelled : (text : List ℕ) (c : CellId) → cell_spelled text ≡ Some c → Spells text (raw_of c)
unfolding cell_spelled
Spells-from_cell_spelled text c h = spells_at text c (is_hexadecimal text) refl h

none_at : (text : List ℕ) (o : Option CellId) → cell_spelled text ≡ o → ((c : CellId) → Spells text (raw_of c) → ⊥)
    → cell_spelled text ≡ None
none_at text None h none = h
none_at text (Some c) h none = absurd (none c (Spells-from_cell_spelled text c h))

-- a text that spells no cell
pub cell_spelled-none : (text : List ℕ) → ((c : CellId) → Spells text (raw_of c) → ⊥) → cell_spelled text ≡ None
cell_spelled-none text none = none_at text (cell_spelled text) refl none

-- what a reader answers that finds the cell that is spelled, and answers it wherever there is one
pub result_ok-cell_spelled : {E : Type 0} (text : List ℕ) (r : Result CellId E) → IfOk r (λ c. Spells text (raw_of c)) →
    ((c : CellId) → Spells text (raw_of c) → r ≡ Ok c) → result_ok r ≡ cell_spelled text
result_ok-cell_spelled text (Ok c) spelled accepted = sym (cell_spelled-some text c spelled)
result_ok-cell_spelled text (Err e) spelled accepted = sym (cell_spelled-none text (λ c h. let wrong = accepted c h in cc))
