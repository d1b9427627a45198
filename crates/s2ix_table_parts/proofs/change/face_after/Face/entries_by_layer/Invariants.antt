use Rattle.std.proofs.Common.{◌≡◌, take}
use Rattle.s2ix_bag_lists.specs.Faces.{all_of}
use Rattle.s2ix_table_parts.specs.FaceSpans.{spans_of}
use Rattle.s2ix_table_parts.specs.Layered.{goes_over}
use Rattle.s2ix_table_parts.specs.Layers.{entries_where, opposite}
use Rattle.s2ix_table_parts.proofs.change.face_after.Face.entries_by_layer.Given as goal

abbrev pub invariant-loop-entry : goal.invariant-loop-entry
invariant-loop-entry l =
    (l.own.heavy.items ≡ entries_where (goes_over (spans_of l.fn.self.parts.now) (all_of l.fn.self.heavy.now)) (take l.entry-index l.entries))
    × (l.own.light.items ≡ entries_where (opposite (goes_over (spans_of l.fn.self.parts.now) (all_of l.fn.self.heavy.now))) (take l.entry-index l.entries))
