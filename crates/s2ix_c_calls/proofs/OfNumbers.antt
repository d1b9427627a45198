-- Numbers of cells: as far as one is known to be a cell's, and the first that is not.
use Rattle.std.proofs.Common.{◌≡◌, ◌<◌, ◌≤◌, ◌+◌, ◌∙◌, ℕ, zero, suc, List, [], ◌∷◌, ◌++◌, length, map, take, drop, get_or, refl, sym, ap, subst, inl, inr, arith, Some}
use Rattle.std.proofs.lemmas.List.{take_more, take_all, take-append-le, map-append, get_or_append_left, get_or-append-add, length-append}
use Rattle.std.proofs.lemmas.Option.{slice_get_within, slice_get-get_or, get_or_from_slice_get}
use Rattle.std.proofs.lemmas.List.Elements.{Contains-get_or}
use Rattle.std.proofs.Math.Seq.{take-append-add}
use Rattle.std.specs.Prelude.{slice_get, Contains}
use Rattle.s2id_core.specs.declared.cell_id.CellId.{CellId}
use Rattle.s2id_core.specs.Cell.{IsCellNumber}
use Rattle.s2id_core.specs.CellId.{raw_of}
use Rattle.s2ix_c_calls.specs.Asked.{AreAllCells, AreCells, IsFirstNoCell, LacksCell}

pub no_numbers : (ids : List ℕ) → AreAllCells (take 0 ids)
no_numbers ids = ([], refl)

-- after numbers that are all cells', one more that is a cell's, and the first that is not
module _ (ids : List ℕ) (place id : ℕ) (within : place < length ids) (is : id ≡ get_or ids place 0) where
  pub one_more : AreAllCells (take place ids) → IsCellNumber id → AreAllCells (take (place + 1) ids)
  one_more before valid =
      let cell : CellId = record { raw = id; valid = valid } in (
        before.0 ++ cell ∷ [],
        map-append raw_of before.0 (cell ∷ []) ∙ ap (λ l. l ++ id ∷ []) before.1 ∙ ap (λ n. take place ids ++ n ∷ []) is ∙ sym (take_more ids place 0 within),
      )

  pub first_no_cell : AreAllCells (take place ids) → (IsCellNumber id → ⊥) → IsFirstNoCell ids place
  first_no_cell before wrong = record {
    cells = before.0;
    before = before.1;
    id = id;
    id_is = slice_get-get_or ids place 0 within ∙ ap Some (sym is);
    wrong = wrong;
  }

-- all of them are after the last
pub all_taken : (ids : List ℕ) (place : ℕ) → length ids ≤ place → AreAllCells (take place ids) → AreAllCells ids
all_taken ids place long before = (before.0, before.1 ∙ take_all place ids long)

-- each of numbers that are all cells' is a cell's
valid_at : (cells : List CellId) (k n : ℕ) → k < length (map raw_of cells) → IsCellNumber (get_or (map raw_of cells) k n)
valid_at [] k n less = absurd (omega arith)
valid_at (c ∷ cs) zero n less = c.valid
valid_at (c ∷ cs) (suc k) n less = valid_at cs k n (omega arith)

pub each_valid : (ids : List ℕ) (k : ℕ) → AreAllCells ids → k < length ids → IsCellNumber (get_or ids k 0)
each_valid ids k all within =
    subst IsCellNumber (ap (λ l. get_or l k 0) all.1)
    (valid_at all.0 k 0 (subst (λ (l : List ℕ). k < length l) (sym all.1) within))

-- ---- two lists, one after the other

pub all_of_both : (first second : List ℕ) → AreAllCells first → AreAllCells second → AreAllCells (first ++ second)
all_of_both first second a b =
    (a.0 ++ b.0, map-append raw_of a.0 b.0 ∙ ap (λ l. l ++ map raw_of b.0) a.1 ∙ ap (λ l. first ++ l) b.1)

pub first_of_first : (first second : List ℕ) (place : ℕ) → IsFirstNoCell first place → IsFirstNoCell (first ++ second) place
first_of_first first second place found =
    let within = slice_get_within first place found.id found.id_is in
    let longer : place < length (first ++ second) = omega (arith, length-append first second) in record {
      cells = found.cells;
      before = found.before ∙ sym (take-append-le place first second (omega arith));
      id = found.id;
      id_is = slice_get-get_or (first ++ second) place found.id longer
          ∙ ap Some (get_or_append_left first second found.id place within ∙ get_or_from_slice_get first place found.id found.id found.id_is);
      wrong = found.wrong;
    }

pub first_of_second : (first second : List ℕ) (place : ℕ) → AreAllCells first → IsFirstNoCell second place
    → IsFirstNoCell (first ++ second) (length first + place)
first_of_second first second place all found =
    let within = slice_get_within second place found.id found.id_is in
    let longer : length first + place < length (first ++ second) = omega (arith, length-append first second) in record {
      cells = all.0 ++ found.cells;
      before = map-append raw_of all.0 found.cells ∙ ap (λ l. l ++ map raw_of found.cells) all.1 ∙ ap (λ l. first ++ l) found.before
          ∙ sym (take-append-add first second place);
      id = found.id;
      id_is = slice_get-get_or (first ++ second) (length first + place) found.id longer
          ∙ ap Some (get_or-append-add first second place found.id ∙ get_or_from_slice_get second place found.id found.id found.id_is);
      wrong = found.wrong;
    }

-- ---- one of them is no cell's

pub lacks_cell : (ids : List ℕ) (place : ℕ) → IsFirstNoCell ids place → LacksCell ids
lacks_cell ids place found =
    let within = slice_get_within ids place found.id found.id_is in (
      found.id,
      subst (λ (n : ℕ). Contains ids n) (get_or_from_slice_get ids place found.id found.id found.id_is) (Contains-get_or ids place found.id within),
      found.wrong,
    )
