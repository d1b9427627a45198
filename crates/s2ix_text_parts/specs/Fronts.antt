-- What does not stand at the front of a text.
use Rattle.std.specs.Prelude.{◌≢◌, ℕ, ◌^◌, ◌<◌, decimal, List, ◌∷◌, ◌++◌}
use Rattle.s2id_core.specs.declared.cell_id.CellId.{CellId}
use Rattle.s2id_core.specs.CellId.{raw_of}
use Rattle.s2id_core.specs.Token.{canonical_token}

-- no cell's canonical token with a space after it
abbrev pub HasNoCellInFront : List ℕ → Type 0
HasNoCellInFront text = (cell : CellId) (rest : List ℕ) → text ≢ canonical_token (raw_of cell) ++ 32 ∷ rest

-- no number of nine digits or less, with the byte `end` after it
abbrev pub HasNoNumberInFront : ℕ → List ℕ → Type 0
HasNoNumberInFront end text = (number : ℕ) (rest : List ℕ) → number < 10 ^ 9 → text ≢ decimal number ++ end ∷ rest
