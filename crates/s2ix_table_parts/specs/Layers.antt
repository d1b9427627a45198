-- Held pairs in two layers: light ones, and heavy ones, whose cells hold very many pairs. All pairs of a cell are in one layer.
use Rattle.std.specs.Prelude.{◌≡◌, ◌==◌, ℕ, ◌%◌, ◌<◌, ◌≤◌, Bool, true, false, not, List, filter, Contains}
use Rattle.std.specs.List.{list_any}
use Rattle.s2id_core.specs.declared.cell_id.CellId.{CellId}
use Rattle.s2id_core.specs.CellId.{raw_of}
use Rattle.s2ix_bag_pairs.specs.Change.{joined}
use Rattle.s2ix_bag_pairs.specs.Collection.{Collection}
use Rattle.s2ix_bag_pairs.specs.Pair.{rank_of}
use Rattle.s2ix_bag_pairs.specs.declared.pair.Held.{Held}
use Rattle.s2ix_bag_pairs.specs.declared.pair.Entry.{Entry}
use Rattle.s2ix_table_walk.specs.Contents.{contents_at}

-- the pairs of both layers, in rising order
unfoldable pub joined_layers : Collection → Collection → Collection
joined_layers light heavy = joined light heavy

-- no pair is in both layers
abbrev pub ShareNoPair : Collection → Collection → Type 0
ShareNoPair light heavy =
    (l h : Held) → Contains light l → Contains heavy h → rank_of l.pair ≡ rank_of h.pair → ⊥

-- no cell has pairs in both layers
abbrev pub ShareNoCell : Collection → Collection → Type 0
ShareNoCell light heavy =
    (l h : Held) → Contains light l → Contains heavy h → raw_of l.pair.cell ≡ raw_of h.pair.cell → ⊥

-- ---- by cells

-- the held pairs whose cells pass a test, in their order
abbrev pub held_where : (CellId → Bool) → Collection → Collection
held_where test held = filter (λ h. test h.pair.cell) held

-- the entries whose cells pass a test, in their order
abbrev pub entries_where : (CellId → Bool) → List Entry → List Entry
entries_where test change = filter (λ e. test e.pair.cell) change

-- a test that passes exactly what another one fails
abbrev pub opposite : (CellId → Bool) → CellId → Bool
opposite test cell = not (test cell)

-- whether a held pair has a cell
abbrev pub holds_cell : Collection → CellId → Bool
holds_cell held cell = list_any (λ h. raw_of h.pair.cell == raw_of cell) held

-- light pairs are in cells that fail a test, heavy ones in cells that pass it
pub record AreLayersBy (is_heavy : CellId → Bool) (light heavy : Collection) : Type 0 where
  pub light_fails : (h : Held) → Contains light h → is_heavy h.pair.cell ≡ false
  pub heavy_passes : (h : Held) → Contains heavy h → is_heavy h.pair.cell ≡ true

-- ---- over a span of leaves

-- over each leaf from one number up to another the heavy pairs are these: `over`
pub record AreUnder (heavy : Collection) (from to : ℕ) (over : Collection) : Type 0 where
  pub same : (q : ℕ) → q % 2 ≡ 1 → from ≤ q → q < to → contents_at q heavy ≡ over
