-- Where a walk over the ranges that a target meets stands, what it has still to give, and what it may have read so far: what the view of
-- `Meeting` and the invariants of the walk stand on.
use Rattle.std.specs.Prelude.{◌≡◌, ℕ, ◌+◌, ◌-◌, ◌*◌, ◌%◌, ◌<◌, ◌≤◌, nat_le, nat_lt, ◌&&◌, if◌then◌else◌, true, Option, Some, None, List, [], ◌∷◌, ◌++◌, length, drop, slice_index_or}
use Rattle.std.specs.List.{count_by}
use Rattle.s2id_core.specs.declared.cell_id.CellId.{CellId}
use Rattle.s2id_core.specs.CellId.{first_of, end_of}
use Rattle.s2id_union.specs.Covers.{Covers}
use Rattle.s2id_union.specs.NormalForm.{is_covered}
use Rattle.s2ix_bag_pairs.specs.Collection.{Collection}
use Rattle.s2ix_table_walk.specs.Meeting.{meeting_from, meeting_of}
use Rattle.s2ix_table_walk.specs.Places.{IsPlace, from_place}
use Rattle.s2ix_table_walk.specs.Table.{Range, range_at, IsFound, leaf_end}
use Rattle.s2ix_table_walk.specs.declared.cost.Cost.{Cost}
use Rattle.s2ix_table_walk.specs.declared.walk_state.KnownWindow.{KnownWindow}
use Rattle.s2ix_table_walk.specs.declared.walk_state.WalkState.{WalkState}
use Rattle.s2ix_table_walk.specs.Costs.{with_look, is_met}
use Rattle.s2id_core.specs.BinaryDigits.{binary_digits}
use Rattle.s2ix_table_walk.specs.Shown.{Shown}

-- the pairs of a chain up to the first whose cell begins before a leaf
unfoldable pub front_from : ℕ → Collection → Collection
front_from from [] = []
front_from from (h ∷ hs) = if nat_le from (first_of h.pair.cell) then h ∷ front_from from hs else []

-- the pairs that are still to be met: what is new of the chain at hand outwards of the pair given last, then the meeting list from `seen` on
abbrev pub left_of : {P : Type 0} → Shown P → List CellId → WalkState P → Collection
left_of shown target walk = front_from walk.from (drop 1 (from_place shown.chain walk.place)) ++ meeting_from target walk.seen shown.pairs

-- those that are still to be met if the pair at the walk's place wasn't given yet
abbrev pub left_with : {P : Type 0} → Shown P → List CellId → WalkState P → Collection
left_with shown target walk = front_from walk.from (from_place shown.chain walk.place) ++ meeting_from target walk.seen shown.pairs

-- the first cells of a target end by a leaf
abbrev pub ArePassed : List CellId → ℕ → ℕ → Type 0
ArePassed target k seen = (j : ℕ) (d : CellId) → j < k → j < length target → end_of (slice_index_or target j d) ≤ seen

-- each leaf before a number is in a range before one, and borders of the table
pub record IsKnown {P : Type 0} (shown : Shown P) (known : KnownWindow) : Type 0 where
  pub within : known.end ≤ length shown.ranges
  pub until : known.end < length shown.ranges → known.until ≤ (range_at shown.ranges known.end).start
  pub borders : known.borders.first + known.borders.size ≤ length shown.borders

-- the range at hand has the leaf `seen`, unless `seen` is the end of the leaves; the leaf before `seen`, if there is one, is the target's;
-- and no range that has a leaf of the target from `seen` on begins before it: the ranges that were read are done with
pub record IsWalk {P : Type 0} (shown : Shown P) (target : List CellId) (walk : WalkState P) : Type 0 where
  pub odd : walk.seen % 2 ≡ 1
  pub within : walk.seen ≤ leaf_end
  pub tight : (q : ℕ) → 1 ≤ q → q + 2 ≡ walk.seen → is_covered target q ≡ true
  pub passed : ArePassed target walk.cell walk.seen
  pub found : walk.seen < leaf_end → IsFound shown.ranges walk.range walk.seen
  pub place : (p : P) → walk.place ≡ Some p → IsPlace shown.chain p
  pub fresh : (k q : ℕ) → Covers target q → walk.seen ≤ q → IsFound shown.ranges k q → walk.seen ≤ (range_at shown.ranges k).start
  pub known : IsKnown shown walk.known

-- ---- what was read

-- 1 for a value, 0 for none
abbrev pub one_if_some : {X : Type 0} → Option X → ℕ
one_if_some None = 0
one_if_some (Some x) = 1

-- one look if there is a place
abbrev pub looked_at : {P : Type 0} → Option P → Cost → Cost
looked_at None cost = cost
looked_at (Some p) cost = with_look cost

-- how many cells of a target begin before a leaf
abbrev pub cells_begun : List CellId → ℕ → ℕ
cells_begun target seen = count_by (λ c. nat_lt (first_of c) seen) target

-- how many ranges that meet a target begin before a leaf
abbrev pub ranges_begun : List CellId → List Range → ℕ → ℕ
ranges_begun target ranges seen = count_by (λ r. is_met target r && nat_lt r.start seen) ranges

-- how many looks and probes a walk may have taken after some calls: for each range begun that is met one probe, and one look that gave no
-- new pair; for each cell begun the probes of a search, and one more for its window or for a range near at hand. For a chain at
-- hand that look is still to come. And how many it must have taken: one probe for each range begun that is met
pub record IsPaid {P : Type 0} (shown : Shown P) (target : List CellId) (walk : WalkState P) (calls : ℕ) (cost : Cost) : Type 0 where
  pub each : calls ≤ cost.looks
  pub looks : cost.looks + one_if_some walk.place ≤ calls + ranges_begun target shown.ranges walk.seen
  pub probes : cost.probes
      ≤ cells_begun target walk.seen * (binary_digits (length shown.ranges + 1) + 1) + ranges_begun target shown.ranges walk.seen
  pub begun : ranges_begun target shown.ranges walk.seen ≤ cost.probes

-- a walk has paid for the pairs that it gave: those of the meeting list in front of what is left
pub record HasPaid {P : Type 0} (shown : Shown P) (target : List CellId) (walk : WalkState P) (cost : Cost) : Type 0 where
  pub fits : length (left_of shown target walk) ≤ length (meeting_of target shown.pairs)
  pub rest : left_of shown target walk
      ≡ drop (length (meeting_of target shown.pairs) - length (left_of shown target walk)) (meeting_of target shown.pairs)
  pub paid : IsPaid shown target walk (length (meeting_of target shown.pairs) - length (left_of shown target walk)) cost
