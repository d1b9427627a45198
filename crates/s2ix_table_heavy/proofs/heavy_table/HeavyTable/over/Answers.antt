use Rattle.std.proofs.Common.{◌≤◌, List, length, sym, subst}
use Rattle.s2ix_bag_pairs.specs.Collection.{Collection, IsCollection}
use Rattle.s2ix_table_spans.proofs.Sweeping.{in_all}
use Rattle.s2ix_table_heavy.specs.Chunks.{AreMarks}
use Rattle.s2ix_table_heavy.proofs.MakingMarks.{marks_are_collection, marks_few}
use Rattle.s2ix_table_heavy.proofs.heavy_table.HeavyTable.over.Goals as goal

pub over-requires-clause-rises : goal.over-requires-clause-rises
over-requires-clause-rises c =
    subst IsCollection (sym c.in_ok-marks.ensures)
    (marks_are_collection c.args.chunks.items c.in_ok-marks_of.field-0.items c.requires
    (subst (λ (chunks : List Collection). AreMarks chunks c.in_ok-marks_of.field-0.items) c.deref.ensures.value c.in_ok-marks_of.ensures))

pub over-requires-clause-within_limit : goal.over-requires-clause-within_limit
over-requires-clause-within_limit c =
    subst (λ (marks : Collection). length marks ≤ 1000000) (sym c.in_ok-marks.ensures)
    (marks_few c.args.chunks.items c.in_ok-marks_of.field-0.items c.requires
    (subst (λ (chunks : List Collection). AreMarks chunks c.in_ok-marks_of.field-0.items) c.deref.ensures.value c.in_ok-marks_of.ensures))

pub over-requires-clause-span : goal.over-requires-clause-span
over-requires-clause-span c = in_all c.in_ok-marks.marks
