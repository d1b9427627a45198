-- Blocks of a collection: the pairs within one cell stand one after the other.
use Rattle.std.specs.Prelude.{◌≡◌, ◌⊎◌, ℕ, ◌+◌, ◌-◌, ◌<◌, ◌≤◌, nat_lt, min, if◌then◌else◌, List, ◌++◌, length, take, drop, map, slice_index_or, Contains}
use Rattle.s2id_core.specs.CellId.{raw_of, first_of, end_of}
use Rattle.s2id_core.specs.declared.cell_id.CellId.{CellId}
use Rattle.s2ix_bag_pairs.specs.Collection.{Collection}
use Rattle.s2ix_bag_pairs.specs.declared.pair.Held.{Held}
use Rattle.s2ix_table_walk.specs.Contents.{contents_at}

-- the pairs within a cell stand between those with lesser numbers and those with greater ones
pub record IsBlock (cell : CellId) (before block after : Collection) : Type 0 where
  pub lesser : (h : Held) → Contains before h → raw_of h.pair.cell < first_of cell
  pub from : (h : Held) → Contains block h → first_of cell ≤ raw_of h.pair.cell
  pub to : (h : Held) → Contains block h → raw_of h.pair.cell + 1 < end_of cell
  pub greater : (h : Held) → Contains after h → end_of cell ≤ raw_of h.pair.cell + 1

-- what lies over all leaves of a cell, of the pairs outside of its block
abbrev pub around : CellId → Collection → Collection → Collection
around cell before after = contents_at (first_of cell) (before ++ after)

-- pairs lie within a cell
abbrev pub AreWithin : CellId → Collection → Type 0
AreWithin cell pairs = (h : Held) → Contains pairs h → (first_of cell ≤ raw_of h.pair.cell) × (raw_of h.pair.cell + 1 < end_of cell)

-- a place is none of those of a block
abbrev pub IsBeside : ℕ → ℕ → ℕ → Type 0
IsBeside start len place = (place < start) ⊎ (start + len ≤ place)

-- where a place beside a block is, once `new` pairs replace `old` ones; a place after all `count` pairs is just after them then
abbrev pub moved : ℕ → ℕ → ℕ → ℕ → ℕ → ℕ
moved start old new count place = if nat_lt place start then place else min place count - old + new

-- a place within a block, among all pairs; `base` if it is none
abbrev pub placed : ℕ → ℕ → ℕ → ℕ → ℕ
placed start new base place = if nat_lt place new then start + place else base

-- the places beside a block and those of the block itself, among all pairs
abbrev pub joined_places : ℕ → ℕ → ℕ → ℕ → ℕ → List ℕ → List ℕ → List ℕ → List ℕ
joined_places start old new count base front own after =
    map (moved start old new count) front ++ (map (placed start new base) own ++ map (moved start old new count) after)

-- ---- one block in the place of another

-- the pairs of a list within a cell are `len` ones from the place `start` on
abbrev pub IsBlockAt : Collection → CellId → ℕ → ℕ → Type 0
IsBlockAt held cell start len = IsBlock cell (take start held) (take len (drop start held)) (drop (start + len) held)

-- a list holds a cell
abbrev pub HoldsCell : Collection → CellId → Type 0
HoldsCell held cell = (h : Held) × Contains held h × (h.pair.cell ≡ cell)

-- within a cell `next` has `new` pairs and `held` has `old` ones; otherwise they have the same pairs, and both hold the cell itself
pub record IsExchange (held next : Collection) (cell : CellId) (start old new : ℕ) : Type 0 where
  pub old_fits : start + old ≤ length held
  pub new_fits : start + new ≤ length next
  pub front : take start next ≡ take start held
  pub rest : drop (start + new) next ≡ drop (start + old) held
  pub old_block : IsBlockAt held cell start old
  pub new_block : IsBlockAt next cell start new
  pub old_own : HoldsCell held cell
  pub new_own : HoldsCell next cell

-- the ranges over a cell: the one at the place `first` begins with the cell, and the cell ends where the one at `last` begins, or with all
pub record AreOverCell (starts : List ℕ) (cell : CellId) (to first last : ℕ) : Type 0 where
  pub rises : first ≤ last
  pub within : last ≤ length starts
  pub begins : slice_index_or (drop first starts) 0 to ≡ first_of cell
  pub ends : slice_index_or (drop last starts) 0 to ≡ end_of cell
  pub before : (s : ℕ) → Contains (take first starts) s → s < first_of cell
  pub after : (s : ℕ) → Contains (drop last starts) s → end_of cell ≤ s
