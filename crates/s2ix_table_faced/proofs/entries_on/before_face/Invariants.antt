use Rattle.std.proofs.Common.{◌-◌, ◌<◌, ◌≤◌, length, take, Contains}
use Rattle.s2id_core.specs.CellId.{face_of}
use Rattle.s2ix_bag_pairs.specs.declared.pair.Entry.{Entry}
use Rattle.s2ix_table_faced.proofs.entries_on.before_face.Given as goal

abbrev pub invariant-loop-count : goal.invariant-loop-count
invariant-loop-count l =
    (l.count ≤ length l.entries) × ((e : Entry) → Contains (take l.count l.entries) e → face_of e.pair.cell < l.face)

abbrev pub decreases-loop-count : goal.decreases-loop-count
decreases-loop-count l = length l.entries - l.count
