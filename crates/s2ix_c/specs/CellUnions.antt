-- What calls on unions of cells tell.
use Rattle.std.specs.Prelude.{◌≡◌, ◌≢◌, ◌⊎◌, ◌↔◌, ℕ, ◌<◌, ◌&&◌, nat_le, nat_lt, Bool, IsTrue, List, [], ◌++◌, length, map}
use Rattle.s2id_core.specs.declared.cell_id.CellId.{CellId}
use Rattle.s2id_core.specs.Cell.{IsCellNumber}
use Rattle.s2id_core.specs.CellId.{raw_of}
use Rattle.s2id_core.specs.Path.{Path, path_at}
use Rattle.s2id_union.specs.NormalForm.{cells_where, is_covered, normal_form}
use Rattle.s2id_union.specs.Range.{IsLeafRange}
use Rattle.s2id_union.specs.Region.{IsLeafList}
use Rattle.s2ix_c_calls.specs.Asked.{AreAllCells, AreCells, LacksCell, LacksUnion}
use Rattle.s2ix_c_calls.specs.Lists.{IsPut, IsRefused}
use Rattle.s2ix_c_calls.specs.Status.{done, no_cell, no_span, out_of_memory}

-- the numbers of the normal list of a region
abbrev pub normal_numbers : List CellId → List ℕ
normal_numbers cells = map raw_of (normal_form cells)

-- the numbers of the normal list of all leaves that pass a test of whether each of two regions has them
abbrev pub numbers_by : (Bool → Bool → Bool) → List CellId → List CellId → List ℕ
numbers_by test first second = map raw_of (cells_where (λ q. test (is_covered (normal_form first) q) (is_covered (normal_form second) q)))

-- a list made of two unions of cells with these numbers, in a buffer, or why there is none; the place of a number that is no cell's counts on
-- through the second list
abbrev pub ListsOfTwo : (List CellId → List CellId → List ℕ) → List ℕ → List ℕ → ℕ → ℕ → List ℕ → List ℕ → Type 0
ListsOfTwo list first second status number old new =
    ((a b : List CellId) × AreCells first a × AreCells second b × IsPut (list a b) status number old new)
    ⊎ (LacksUnion (first ++ second) status number × (new ≡ old))

-- the normal list of a span of leaves, in a buffer; or there is no such span; or memory is wanted, for some leaves
abbrev pub ListsSpan : ℕ → ℕ → ℕ → ℕ → List ℕ → List ℕ → Type 0
ListsSpan start limit status number old new =
    (IsLeafRange start limit × IsPut (map raw_of (cells_where (λ q. nat_le start q && nat_lt q limit))) status number old new)
    ⊎ ((IsLeafRange start limit → ⊥) × IsRefused no_span status number old new)
    ⊎ (IsLeafRange start limit × (start < limit) × IsRefused out_of_memory status number old new)

-- whether P holds of the region of the cells with these numbers and of a cell; no, if a number is no cell's, or memory is wanted for cells
abbrev pub Decides : (List CellId → Path → Type 0) → List ℕ → ℕ → ℕ → Bool → Type 0
Decides P ids id status answer =
    (IsCellNumber id × (cells : List CellId) × AreCells ids cells × (status ≡ done) × (IsTrue answer ↔ P (normal_form cells) (path_at id)))
    ⊎ ((LacksCell ids ⊎ (IsCellNumber id → ⊥)) × (status ≡ no_cell) × (IsTrue answer → ⊥))
    ⊎ (IsCellNumber id × AreAllCells ids × (ids ≢ []) × (status ≡ out_of_memory) × (IsTrue answer → ⊥))

-- how many leaves the union of the cells with these numbers has; 0, if a number is no cell's, or memory is wanted for cells
abbrev pub CountsLeaves : List ℕ → ℕ → ℕ → Type 0
CountsLeaves ids status count =
    ((cells : List CellId) × AreCells ids cells × (status ≡ done) × (leaves : List Path) × IsLeafList (normal_form cells) leaves × (length leaves ≡ count))
    ⊎ (LacksCell ids × (status ≡ no_cell) × (count ≡ 0))
    ⊎ (AreAllCells ids × (ids ≢ []) × (status ≡ out_of_memory) × (count ≡ 0))
