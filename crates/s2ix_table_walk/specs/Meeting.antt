-- What of a collection meets a target, and the labels of that.
use Rattle.std.specs.Prelude.{◌≡◌, ◌↔◌, ◌⊎◌, ℕ, ◌+◌, ◌*◌, ◌<◌, ◌≤◌, nat_le, nat_lt, ◌&&◌, if◌then◌else◌, Bool, List, [], ◌∷◌, AllPairs, Contains, min, max}
use Rattle.s2id_core.specs.declared.cell_id.CellId.{CellId}
use Rattle.s2id_core.specs.CellId.{path_of, first_of, end_of}
use Rattle.s2id_core.specs.Leaves.{IsLeafOf}
use Rattle.s2id_core.specs.Path.{Path, number_of}
use Rattle.s2id_union.specs.Region.{InRegion, Meets}
use Rattle.s2ix_bag_pairs.specs.Collection.{Collection}
use Rattle.s2ix_bag_pairs.specs.Label.{value_of}
use Rattle.s2ix_bag_pairs.specs.declared.label.Label.{Label}
use Rattle.s2ix_bag_pairs.specs.declared.pair.Held.{Held}
use Rattle.s2ix_table_walk.specs.InOrder.{choice}
use Rattle.s2ix_table_walk.specs.Contents.{IsDeeper, depth_key}
use Rattle.s2ix_table_walk.specs.Table.{leaf_end}

-- the first leaf that a cell shares with a region
pub record IsFirstShared (target : List CellId) (cell : CellId) (leaf : Path) : Type 0 where
  pub of_cell : IsLeafOf leaf (path_of cell)
  pub of_target : InRegion target leaf
  pub least : (other : Path) → IsLeafOf other (path_of cell) → InRegion target other → number_of leaf ≤ number_of other

-- a pair is met before another: by the first shared leaf, then by falling level, then by rising label
abbrev pub IsMetBefore : List CellId → Held → Held → Type 0
IsMetBefore target a b =
    (p q : Path) → IsFirstShared target a.pair.cell p → IsFirstShared target b.pair.cell q →
    (number_of p < number_of q) ⊎ ((number_of p ≡ number_of q) × IsDeeper a b)

-- the meeting list of a target: the held pairs whose cells share a leaf with it, each once and in that order
pub record IsMeetingList (target : List CellId) (held meeting : Collection) : Type 0 where
  pub rises : AllPairs (IsMetBefore target) meeting
  pub each : (h : Held) → Contains meeting h ↔ (Contains held h × Meets target (path_of h.pair.cell))

-- the label list of a target: the labels of its meeting list, once each and rising
pub record IsLabelList (meeting : Collection) (labels : List Label) : Type 0 where
  pub rises : AllPairs (λ l m. value_of l < value_of m) labels
  pub each : (l : Label) → Contains labels l ↔ ((h : Held) × Contains meeting h × (h.pair.label ≡ l))

-- ---- the meeting list as a function

-- the number of the first leaf that a cell shares with one of a list, or `leaf_end` if it shares none
unfoldable pub first_shared : List CellId → CellId → ℕ
first_shared [] cell = leaf_end
first_shared (t ∷ ts) cell =
    if nat_lt (first_of t) (end_of cell) && nat_lt (first_of cell) (end_of t)
    then min (max (first_of t) (first_of cell)) (first_shared ts cell)
    else first_shared ts cell

-- a number that rises with the first shared leaf, and at one leaf with `depth_key`
unfoldable pub meeting_key : List CellId → Held → ℕ
meeting_key target h = first_shared target h.pair.cell * 68719476736 + depth_key h

-- whether the first leaf that a pair's cell shares with a target has this number or a later one
abbrev pub is_met_from : List CellId → ℕ → Held → Bool
is_met_from target from h = nat_le from (first_shared target h.pair.cell) && nat_lt (first_shared target h.pair.cell) leaf_end

-- the part of the meeting list from a leaf on
unfoldable pub meeting_from : List CellId → ℕ → Collection → Collection
meeting_from target from held = choice (is_met_from target from) (meeting_key target) held

-- the meeting list: leaf numbers begin at 1
abbrev pub meeting_of : List CellId → Collection → Collection
meeting_of target held = meeting_from target 1 held
