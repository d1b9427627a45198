-- What is before the face lies before `from`, the rest from `to` on; each read halves what is between.
use Rattle.std.proofs.Common.{◌≡◌, ◌+◌, ◌-◌, ◌≤◌, ℕ, length, take, drop}
use Rattle.s2ix_bag_lists.specs.Faces.{face_start}
use Rattle.s2ix_bag_pairs.specs.Collection.{IsCollectionFrom, AreBelow}
use Rattle.s2id_core.specs.BinaryDigits.{binary_digits}
use Rattle.s2ix_table_kept.specs.Reading.{with_reads}
use Rattle.s2ix_table_faced.proofs.read_faces.first_from.Given as goal

abbrev pub invariant-loop-from : goal.invariant-loop-from
invariant-loop-from g l =
    ((k : ℕ)
    × (g.B.PairReader.spent l.reader ≡ with_reads k (g.B.PairReader.spent l.fn.reader))
    × (k + binary_digits (l.to - l.from) ≤ binary_digits (length (g.B.PairReader.shown l.fn.reader))))
    × (g.B.PairReader.shown l.reader ≡ g.B.PairReader.shown l.fn.reader)
    × (l.from ≤ l.to)
    × (l.to ≤ length (g.B.PairReader.shown l.fn.reader))
    × AreBelow (face_start l.face) (take l.from (g.B.PairReader.shown l.fn.reader))
    × IsCollectionFrom (face_start l.face) (drop l.to (g.B.PairReader.shown l.fn.reader))

abbrev pub decreases-loop-from : goal.decreases-loop-from
decreases-loop-from g l = l.to - l.from
