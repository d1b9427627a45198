-- The faces before this one were read, when the change has entries on them.
use Rattle.std.proofs.Common.{◌≡◌, Option, None, map}
use Rattle.s2ix_bag_pairs.specs.Collection.{Collection}
use Rattle.s2ix_table_kept.specs.Faces.{changed_on}
use Rattle.s2ix_table_kept.specs.Reading.{two_searches}
use Rattle.s2ix_table_faced.proofs.Summing.{AreReadBelow, renewed}
use Rattle.s2ix_table_faced.proofs.read_faces.read_changed_lists.Given as goal

abbrev pub invariant-loop-face : goal.invariant-loop-face
invariant-loop-face g l =
    (map (λ (held : Option Collection). held) l.read ≡ renewed l.face (changed_on l.change (g.B.PairReader.shown l.fn.reader)) (λ face. None))
    × AreReadBelow l.change (g.B.PairReader.shown l.fn.reader) (two_searches (g.B.PairReader.shown l.fn.reader)) l.face
    (g.B.PairReader.spent l.fn.reader) (g.B.PairReader.spent l.reader)
    × (g.B.PairReader.shown l.reader ≡ g.B.PairReader.shown l.fn.reader)
