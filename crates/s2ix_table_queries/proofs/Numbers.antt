-- The cell of a number is the one that its call found, and an even number is no leaf's.
use Rattle.std.proofs.lemmas.Bool.{both_ways, eqb-true}
use Rattle.std.proofs.Common.{◌≡◌, ◌==◌, ◌%◌, ℕ, Bool, true, false, Option, Some, None, if◌then◌else◌, sym, subst, refl, arith}
use Rattle.std.specs.Prelude.{◌↔◌, IsSome, IfSome}
use Rattle.s2id_core.specs.declared.cell_id.CellId.{CellId}
use Rattle.s2id_core.specs.Cell.{IsCellNumber}
use Rattle.s2id_core.specs.CellId.{raw_of, level_of}
use Rattle.s2id_core.specs.Spelled.{cell_numbered}
use Rattle.s2id_core.proofs.Spelled.{numbered, numbered-raw}
use Rattle.s2ix_table_queries.specs.Leaf.{leaf_if, leaf_numbered}
use Rattle.s2ix_table_queries.proofs.Linking.{leaf_odd}

none_numbered : (n : ℕ) (o : Option CellId) → cell_numbered n ≡ o → (IsCellNumber n → ⊥) → o ≡ None
none_numbered n (Some c) is none = absurd (none (subst IsCellNumber (sym (numbered-raw n c is)) c.valid))
none_numbered n None is none = refl

pub is_numbered : (n : ℕ) (o : Option CellId) → (IsSome o ↔ IsCellNumber n) → IfSome o (λ c. raw_of c ≡ n) → o ≡ cell_numbered n
is_numbered n (Some c) found number = sym (subst (λ (m : ℕ). cell_numbered m ≡ Some c) number (numbered (raw_of c) c.valid))
is_numbered n None found number = sym (none_numbered n (cell_numbered n) refl (λ h. both_ways false refl (found.1 h)))

-- what is tested doesn't hold
untested : {A : Type 0} (a : A) (test : Bool) → (test ≡ true → ⊥) → (if test then Some a else None) ≡ None
untested a true never = absurd (never refl)
untested a false never = refl

even_no_leaf : (n : ℕ) (o : Option CellId) → cell_numbered n ≡ o → n % 2 ≡ 0 → leaf_if o ≡ None
even_no_leaf n (Some c) is even = untested c (level_of c == 30) (λ test.
    let odd = leaf_odd c (eqb-true (level_of c) 30 test) in
    let raw = numbered-raw n c is in
    omega (arith, odd, raw, even))
even_no_leaf n None is even = refl

-- an even number is no leaf's
pub no_leaf : (n : ℕ) → n % 2 ≡ 0 → leaf_numbered n ≡ None
no_leaf n even = even_no_leaf n (cell_numbered n) refl even
