-- Cells are told by their numbers.
use Rattle.std.proofs.Common.{◌≡◌, ℕ, nat_eq, ap, subst, eqb-true, eq-eqb}
use Rattle.std.specs.Bool.{Decides}
use Rattle.std.proofs.Math.Bridge.{le_prop}
use Rattle.std.proofs.Math.Nat.{ℕ_set}
use Rattle.s2id_core.specs.declared.cell_id.CellId.{CellId}
use Rattle.s2id_core.specs.Cell.{IsCellNumber}
use Rattle.s2id_core.specs.CellId.{raw_of}

cell : (n : ℕ) → IsCellNumber n → CellId
cell n v = record { raw = n; valid = v }

pub IsCellNumber-prop : (n : ℕ) → IsProp (IsCellNumber n)
IsCellNumber-prop n = hlevel (le_prop, ℕ_set)

same_by : (m n : ℕ) (v : IsCellNumber m) → m ≡ n → (w : IsCellNumber n) → cell m v ≡ cell n w
unfolding cell
same_by m n v e = subst (λ x. (w : IsCellNumber x) → cell m v ≡ cell x w) e (λ w. ap (cell m) (IsCellNumber-prop m v w))

-- two cells of one number are one cell
pub same_cell : (a b : CellId) → raw_of a ≡ raw_of b → a ≡ b
unfolding cell
same_cell a b e = same_by a.raw b.raw a.valid e b.valid

-- `==` decides whether two cells are one
pub cells_decided : (a b : CellId) → Decides (nat_eq (raw_of a) (raw_of b)) (a ≡ b)
cells_decided a b = (λ t. same_cell a b (eqb-true (raw_of a) (raw_of b) t), λ e. eq-eqb (raw_of a) (raw_of b) (ap raw_of e))
