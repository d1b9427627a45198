-- Reading tokens: what `from_token` answers.
use Rattle.std.proofs.Common.{◌≡◌, ◌↔◌, ℕ, ◌<◌, ◌≤◌, inl, inr, List, length, take, sym, ◌∙◌, ap, refl, arith, subst, Option, Some, None, Result, Ok, Err, IsSome, IfSome}
use Rattle.std.specs.Prelude.{IsErrOf}
use Rattle.std.specs.Option.{ok_or}
use Rattle.std.specs.Char.{digit_value}
use Rattle.std.proofs.lemmas.Bool.{cases_lt}
use Rattle.std.proofs.lemmas.List.{get_or-take, length-take-le}
use Rattle.s2id_core.specs.declared.cell_id.CellId.{CellId}
use Rattle.s2id_core.specs.declared.token.TokenError.{TokenError}
use Rattle.s2id_core.specs.declared.token.TokenError.TheVariants.{NotHex, NotACell}
use Rattle.s2id_core.specs.Cell.{IsCellNumber}
use Rattle.s2id_core.specs.CellId.{raw_of}
use Rattle.s2id_core.specs.Token.{Spells, IsFirstNotHex}
use Rattle.s2id_core.proofs.Cells.{same_cell}
use Rattle.s2id_core.proofs.Digits.{digit_at}

-- a text that spells a number has no byte that is no digit
pub no_fault : (text : List ℕ) (n place : ℕ) → Spells text n → IsFirstNotHex text place → ⊥
no_fault text n place spells fault = let small = digit_at text place spells.digits fault.within in let big = fault.here in omega arith

not_before : (text : List ℕ) (p q : ℕ) → p < q → IsFirstNotHex text p → IsFirstNotHex text q → ⊥
not_before text p q h at_p at_q =
    let long : length (take q text) ≡ q = length-take-le q text (let w = at_q.within in omega arith) in
    let small = digit_at (take q text) p at_q.before (omega arith) in
    let same = ap digit_value (get_or-take q text p 0 h) in
    let big = at_p.here in
    omega arith

-- there is one first byte that is no digit
pub one_fault : (text : List ℕ) (p q : ℕ) → IsFirstNotHex text p → IsFirstNotHex text q → p ≡ q
one_fault text p q at_p at_q =
    elim (cases_lt p q) [ inl h ↦ absurd (not_before text p q h at_p at_q) | inr h ↦ elim (cases_lt q p) [ inl k ↦ absurd (not_before text q p k at_q at_p) | inr k ↦ omega arith ] ]

one_number : (text : List ℕ) (m n : ℕ) → Spells text m → Spells text n → m ≡ n
one_number text m n a b = sym a.value ∙ b.value

-- what `from_token` promises of a text of 1 to 16 bytes
pub record IsAnswer (text : List ℕ) (r : Result CellId TokenError) : Type 0 where
  pub accepted : (c : CellId) → Spells text (raw_of c) → r ≡ Ok c
  pub not_hex : (place : ℕ) → IsErrOf r (NotHex place) ↔ ((length text ≤ 16) × IsFirstNotHex text place)
  pub not_a_cell : IsErrOf r NotACell ↔ ((n : ℕ) × Spells text n × ¬ IsCellNumber n)

-- the text spells the number n, and r is the cell of n if there is one
pub answered : (text : List ℕ) (n : ℕ) (r : Option CellId) → Spells text n → IsSome r ↔ IsCellNumber n → IfSome r (λ c. raw_of c ≡ n)
    → IsAnswer text (ok_or r NotACell)
answered text n (Some d) spells found number = record {
  accepted = λ c s. ap Ok (same_cell d c (number ∙ one_number text n (raw_of c) spells s));
  not_hex = λ place. (λ e. absurd (cc), λ f. absurd (no_fault text n place spells f.1));
  not_a_cell = (λ e. absurd (cc), λ w. absurd (w.2 (subst IsCellNumber (one_number text n w.0 spells w.1) (found.0 refl))));
}
answered text n None spells found number = record {
  accepted = λ c s. absurd (let is = found.1 (subst IsCellNumber (one_number text (raw_of c) n s spells) c.valid) in cc);
  not_hex = λ place. (λ e. absurd (cc), λ f. absurd (no_fault text n place spells f.1));
  not_a_cell = (λ e. (n, spells, λ v. let is = found.1 v in cc), λ w. refl);
}

-- the text has a byte that is no digit
pub faulted : (text : List ℕ) (at : ℕ) → length text ≤ 16 → IsFirstNotHex text at → IsAnswer text (Err (NotHex at))
faulted text at fits fault = record {
  accepted = λ c s. absurd (no_fault text (raw_of c) at s fault);
  not_hex = λ place. (λ e. (fits, subst (λ p. IsFirstNotHex text p) (let same : at ≡ place = cc in same) fault), λ f. ap (λ p. Err (NotHex p)) (one_fault text at place fault f.1));
  not_a_cell = (λ e. absurd (cc), λ w. absurd (no_fault text w.0 at w.1 fault));
}
