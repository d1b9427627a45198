-- Private words: what the private functions promise that this crate's loops call. No public contract cites them.
use Rattle.std.specs.Prelude.{◌≡◌, ◌↔◌, ◌⊎◌, ℕ, ◌<◌, ◌≤◌, ◌+◌, List, [], ◌∷◌, ◌++◌, Contains as HasElement, Bool, IsTrue, slice_index_or, length}
use Rattle.s2id_core.specs.declared.cell_id.CellId.{CellId}
use Rattle.s2id_core.specs.CellId.{raw_of, first_of, end_of}
use Rattle.s2id_core.specs.Cell.{IsCellNumber}
use Rattle.s2id_core.specs.Span.{first_at, end_at, IsNested}
use Rattle.s2id_union.specs.Covers.{Covers, FollowOneAnother}

-- a number lies from `start` up to and without `limit`
pub record InSpan (start limit q : ℕ) : Type 0 where
  pub from : start ≤ q
  pub to : q < limit

-- no greater cell round this one has all its numbers below `free` in the set
abbrev pub IsMaximal : (ℕ → Type 0) → ℕ → ℕ → Type 0
IsMaximal In free n =
    (b : ℕ) → IsCellNumber b → IsNested n b → ((q : ℕ) → first_at b ≤ q → q < end_at b → q < free → In q) → b ≡ n

-- cells that follow one another and end by `free`, each maximal in what lies below it
pub record AreMaximalBelow (cells : List CellId) (free : ℕ) : Type 0 where
  pub follow : FollowOneAnother cells
  pub below : (c : CellId) → HasElement cells c → end_of c ≤ free
  pub maximal : (c : CellId) → HasElement cells c → IsMaximal (Covers cells) free (raw_of c)

-- the greatest cell that begins at a place and ends by the limit
pub record IsGreatest (c at limit : ℕ) : Type 0 where
  pub begins : first_at c ≡ at
  pub ends : end_at c ≤ limit
  pub greatest : (b : ℕ) → IsCellNumber b → first_at b ≡ at → end_at b ≤ limit → end_at b ≤ end_at c

-- the whole span is added
pub record IsAdded (old cells : List CellId) (start limit : ℕ) : Type 0 where
  pub maximal : AreMaximalBelow cells (limit + 1)
  pub covers : (q : ℕ) → Covers cells q ↔ (Covers old q ⊎ InSpan start limit q)

-- the first k cells end by `at`, and the others after it
pub record IsAhead (cells : List CellId) (k at : ℕ) : Type 0 where
  pub passed : (j : ℕ) (d : CellId) → j < k → j < length cells → end_of (slice_index_or cells j d) ≤ at
  pub ahead : (j : ℕ) (d : CellId) → k ≤ j → j < length cells → at < end_of (slice_index_or cells j d)

-- none of the cells from the k-th on ends before a place
abbrev pub IsReached : List CellId → ℕ → ℕ → Type 0
IsReached cells k end = (j : ℕ) (d : CellId) → k ≤ j → j < length cells → end ≤ end_of (slice_index_or cells j d)

-- the numbers from `at` up to and without `end` are all in the spans of the cells, or all outside them
abbrev pub IsConstant : List CellId → ℕ → ℕ → Bool → Type 0
IsConstant cells at end inside = (q : ℕ) → at ≤ q → q < end → Covers cells q ↔ IsTrue inside

-- a cell is one of two, and lies within both
pub record IsShared (one other cell : CellId) : Type 0 where
  pub either : (cell ≡ one) ⊎ (cell ≡ other)
  pub in_one : IsNested (raw_of cell) (raw_of one)
  pub in_other : IsNested (raw_of cell) (raw_of other)

-- what two cells share is added: the one that lies within both, or nothing if they share no leaf
abbrev pub AreShared : CellId → CellId → List CellId → List CellId → Type 0
AreShared one other old cells =
    ((cells ≡ old) × ((q : ℕ) → InSpan (first_of one) (end_of one) q → InSpan (first_of other) (end_of other) q → ⊥))
    ⊎ ((cell : CellId) × (cells ≡ old ++ cell ∷ []) × IsShared one other cell)
