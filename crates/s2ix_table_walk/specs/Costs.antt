-- What reading a table costs.
use Rattle.std.specs.Prelude.{ℕ, ◌+◌, ◌*◌, ◌≤◌, nat_le, nat_lt, ◌&&◌, Bool, List, Contains, length, min, take}
use Rattle.s2id_core.specs.BinaryDigits.{binary_digits}
use Rattle.std.specs.List.{count_by, list_any}
use Rattle.s2id_core.specs.declared.cell_id.CellId.{CellId}
use Rattle.s2id_core.specs.CellId.{first_of, end_of}
use Rattle.s2ix_bag_pairs.specs.Collection.{Collection}
use Rattle.s2ix_bag_pairs.specs.declared.pair.Held.{Held}
use Rattle.s2ix_table_walk.specs.Meeting.{first_shared, meeting_of}
use Rattle.s2ix_table_walk.specs.Table.{Range}
use Rattle.s2ix_table_walk.specs.declared.cost.Cost.{Cost}

-- nothing was read
abbrev pub no_cost : Cost
no_cost = record { looks = 0; probes = 0 }

-- one look more; counts stop at 2 ^ 64 - 1
abbrev pub with_look : Cost → Cost
with_look cost = record { looks = min (cost.looks + 1) 18446744073709551615; probes = cost.probes }

-- one probe more
abbrev pub with_probe : Cost → Cost
with_probe cost = record { looks = cost.looks; probes = min (cost.probes + 1) 18446744073709551615 }

-- no fewer probes than before, in a count that stops at 2 ^ 64 - 1
abbrev pub NoFewerProbes : Cost → Cost → Type 0
NoFewerProbes before after = min before.probes 18446744073709551615 ≤ after.probes

-- ---- the bounds of a walk

-- whether a range shares a leaf with a target: it overlaps one of its cells
abbrev pub is_met : List CellId → Range → Bool
is_met target range = list_any (λ c. nat_lt range.start (end_of c) && nat_lt (first_of c) range.limit) target

-- how many ranges share a leaf with a target
abbrev pub ranges_met : List CellId → List Range → ℕ
ranges_met target ranges = count_by (is_met target) ranges

-- how many ranges that share a leaf with a target begin by a leaf
abbrev pub ranges_met_by : List CellId → List Range → ℕ → ℕ
ranges_met_by target ranges leaf = count_by (λ r. is_met target r && nat_le r.start leaf) ranges

-- how many looks and probes a walk may have taken after some calls of its closure, and how many it must have taken: a look for each call,
-- and a probe for each range that the target meets up to the first leaf which it shares with a pair that was called
pub record IsWalkCost (target : List CellId) (held : Collection) (ranges : List Range) (calls : ℕ) (cost : Cost) : Type 0 where
  pub each : calls ≤ cost.looks
  pub looks : cost.looks ≤ calls + ranges_met target ranges + length target
  pub probes : cost.probes ≤ length target * binary_digits (length ranges + 1) + ranges_met target ranges + length target
  pub least : (h : Held) → Contains (take calls (meeting_of target held)) h
      → ranges_met_by target ranges (first_shared target h.pair.cell) ≤ cost.probes
