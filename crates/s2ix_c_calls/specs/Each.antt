-- Lists for each of many leaves or targets, one after the other in a buffer of the caller.
use Rattle.std.specs.Prelude.{◌≡◌, ◌⊎◌, ℕ, ◌+◌, ◌-◌, ◌<◌, ◌≤◌, List, [], ◌∷◌, ◌++◌, length, take, flat_map, slice_index_or}
use Rattle.std.specs.List.{slice_range}
use Rattle.s2id_core.specs.declared.cell_id.CellId.{CellId}
use Rattle.s2ix_bag_pairs.specs.Collection.{Collection}
use Rattle.s2ix_bag_pairs.specs.declared.pair.Held.{Held}
use Rattle.s2ix_table_queries.specs.ManyLeaves.{AreAnswered, IsNoLeaf, LacksRoom}
use Rattle.s2ix_c_calls.specs.Asked.{AreAllCells, AreCells, LacksCell}
use Rattle.s2ix_c_calls.specs.Status.{done, no_cell, no_room, no_span, out_of_memory}

-- leaves are answered from the first one on, and the status says why the next one is not
pub record AnswersLeaves {R : Type 0} (of : Held → R) (held : Collection) (leaves : List ℕ) (status answered : ℕ) (ends_old ends_new : List ℕ) (old new : List R) : Type 0 where
  pub front : AreAnswered of held leaves answered ends_new new
  pub all : status ≡ done → answered ≡ length leaves
  pub wrong_leaf : status ≡ no_cell → IsNoLeaf leaves answered
  pub short : status ≡ no_room → LacksRoom held leaves answered ends_old old
  pub only : (status ≡ done) ⊎ (status ≡ no_cell) ⊎ (status ≡ no_room)

-- how many targets there are: each lies between two neighbouring bounds, so there is none with one bound, or with no bound
abbrev pub target_count : List ℕ → ℕ
target_count bounds = length bounds - 1

-- where a target's cells begin in the list of all targets' cells
abbrev pub target_begin : List ℕ → ℕ → ℕ
target_begin bounds k = slice_index_or bounds k 0

-- where they end: where those of the next target begin
abbrev pub target_end : List ℕ → ℕ → ℕ
target_end bounds k = slice_index_or bounds (k + 1) 0

-- the numbers of a target's cells
abbrev pub target_ids : List ℕ → List ℕ → ℕ → List ℕ
target_ids ids bounds k = slice_range ids (target_begin bounds k) (target_end bounds k)

-- there is a target at a place, and its cells are part of the list
pub record IsSpan (ids bounds : List ℕ) (k : ℕ) : Type 0 where
  pub within : k < target_count bounds
  pub rising : target_begin bounds k ≤ target_end bounds k
  pub listed : target_end bounds k ≤ length ids

-- the target at a place is the union of these cells
pub record IsTarget (ids bounds : List ℕ) (k : ℕ) (cells : List CellId) : Type 0 where
  pub span : IsSpan ids bounds k
  pub named : AreCells (target_ids ids bounds k) cells

-- these are the first targets, and they are answered: their lists are at the front of a buffer, and beside each target is how many items
-- its list and those before it have
pub record AreMet {A : Type 0} (list : List CellId → List A) (ids bounds : List ℕ) (targets : List (List CellId)) (ends : List ℕ) (out : List A) : Type 0 where
  pub asked : (k : ℕ) → k < length targets → IsTarget ids bounds k (slice_index_or targets k [])
  pub listed : length targets ≤ length ends
  pub counted : (k : ℕ) → k < length targets → slice_index_or ends k 0 ≡ length (flat_map list (take (k + 1) targets))
  pub put : take (length (flat_map list targets)) out ≡ flat_map list targets

-- the bounds of the target at a place fall, or pass the end of the list
pub record IsNoSpan (ids bounds : List ℕ) (k : ℕ) : Type 0 where
  pub within : k < target_count bounds
  pub wrong : (target_end bounds k < target_begin bounds k) ⊎ (length ids < target_end bounds k)

-- the target at a place has a number that is no cell's
pub record IsNoTarget (ids bounds : List ℕ) (k : ℕ) : Type 0 where
  pub span : IsSpan ids bounds k
  pub wrong : LacksCell (target_ids ids bounds k)

-- to answer the target at a place may want memory: its numbers are such as want it, and its end has room
pub record WantsMemory (wants : List ℕ → Type 0) (ids bounds ends : List ℕ) (k : ℕ) : Type 0 where
  pub span : IsSpan ids bounds k
  pub right : AreAllCells (target_ids ids bounds k)
  pub such : wants (target_ids ids bounds k)
  pub listed : k < length ends

-- after the answered targets there is no room for the next one
pub record LacksRoomAfter {A : Type 0} (list : List CellId → List A) (ids bounds : List ℕ) (targets : List (List CellId)) (ends : List ℕ) (out : List A) : Type 0 where
  pub cells : List CellId
  pub next : IsTarget ids bounds (length targets) cells
  pub short : (length ends ≤ length targets) ⊎ (length out < length (flat_map list (targets ++ cells ∷ [])))

-- targets are answered from the first one on, and the status says why the next one is not; memory may be wanted for such numbers
pub record AnswersTargets {A : Type 0} (list : List CellId → List A) (wants : List ℕ → Type 0) (ids bounds : List ℕ) (status answered : ℕ) (ends_old ends_new : List ℕ) (old new : List A) : Type 0 where
  pub targets : List (List CellId)
  pub count : answered ≡ length targets
  pub front : AreMet list ids bounds targets ends_new new
  pub all : status ≡ done → answered ≡ target_count bounds
  pub wrong_bounds : status ≡ no_span → IsNoSpan ids bounds answered
  pub wrong_cell : status ≡ no_cell → IsNoTarget ids bounds answered
  pub memory : status ≡ out_of_memory → WantsMemory wants ids bounds ends_old answered
  pub short : status ≡ no_room → LacksRoomAfter list ids bounds targets ends_old old
  pub only : (status ≡ done) ⊎ (status ≡ no_span) ⊎ (status ≡ no_cell) ⊎ (status ≡ out_of_memory) ⊎ (status ≡ no_room)

-- a list is put behind those at the front of a buffer, from one place to another
pub record IsNext {A : Type 0} (list : List A) (from to : ℕ) (old new : List A) : Type 0 where
  pub counted : to ≡ from + length list
  pub within : to ≤ length old
  pub put : take to new ≡ take from old ++ list

-- the same for the list of a target, or the status says why there is none
pub record PutsNext {A : Type 0} (list : List CellId → List A) (wants : List ℕ → Type 0) (ids : List ℕ) (status from to : ℕ) (old new : List A) : Type 0 where
  pub before : take from new ≡ take from old
  pub put : status ≡ done → (cells : List CellId) × AreCells ids cells × IsNext (list cells) from to old new
  pub wrong_cell : status ≡ no_cell → LacksCell ids
  pub memory : status ≡ out_of_memory → AreAllCells ids × wants ids
  pub short : status ≡ no_room → (cells : List CellId) × AreCells ids cells × (length old < from + length (list cells))
  pub only : (status ≡ done) ⊎ (status ≡ no_cell) ⊎ (status ≡ out_of_memory) ⊎ (status ≡ no_room)

-- there is no room for a target's list, or one of its numbers is no cell's
pub record RefusesRoom (ids : List ℕ) (status : ℕ) : Type 0 where
  pub right : status ≡ no_room → AreAllCells ids
  pub wrong_cell : status ≡ no_cell → LacksCell ids
  pub only : (status ≡ no_cell) ⊎ (status ≡ no_room)
