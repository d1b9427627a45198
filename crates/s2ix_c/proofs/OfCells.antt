-- What is found of a cell, told of its number.
use Rattle.std.proofs.Common.{◌≡◌, ◌↔◌, ◌<◌, ◌≤◌, ℕ, Bool, IsTrue, List, length, refl, subst, inl, Any, AllPairs}
use Rattle.std.specs.Prelude.{Contains as HasElement}
use Rattle.s2id_core.specs.declared.cell_id.CellId.{CellId}
use Rattle.s2id_core.specs.Cell.{IsCellNumber}
use Rattle.s2id_core.specs.CellId.{raw_of, path_of}
use Rattle.s2id_core.specs.Path.{Path, path_at}
use Rattle.s2id_cube.specs.Border.{IsOnBorder}
use Rattle.s2id_union.specs.NormalForm.{normal_form}
use Rattle.s2ix_c.specs.Cells.{IsBorder}
use Rattle.s2ix_c.specs.CellUnions.{Decides}
use Rattle.s2ix_c_calls.specs.Asked.{AreCells}
use Rattle.s2ix_c_calls.specs.Status.{done}

pub bordered :
    (c : CellId) (id level : ℕ) (cells : List CellId)
    → raw_of c ≡ id
    → AllPairs (λ x y. raw_of x < raw_of y) cells
    → ((x : CellId) → HasElement cells x ↔ IsOnBorder (path_of c) level (path_of x))
    → ((q : Path) → IsOnBorder (path_of c) level q → Any (λ x. path_of x ≡ q) cells)
    → length cells ≤ 1024
    → IsBorder (path_at id) level cells
bordered c id level cells number rising each complete at_most = subst
    (λ (n : ℕ). IsBorder (path_at n) level cells)
    number
    (record { rising = rising; each = each; complete = complete; at_most = at_most })

pub decided :
    (P : List CellId → Path → Type 0) (ids : List ℕ) (id : ℕ) (union : List CellId) (c : CellId) (answer : Bool)
    → raw_of c ≡ id
    → ((cells : List CellId) × AreCells ids cells × (union ≡ normal_form cells))
    → (IsTrue answer ↔ P union (path_of c))
    → Decides P ids id done answer
decided P ids id union c answer number is holds = inl (
  subst IsCellNumber number c.valid,
  is.0,
  is.1,
  refl,
  subst
      (λ (n : ℕ). IsTrue answer ↔ P (normal_form is.0) (path_at n))
      number
      (subst (λ (l : List CellId). IsTrue answer ↔ P l (path_of c)) is.2 holds),
)
