-- What a table of heavy pairs keeps.
use Rattle.std.specs.Prelude.{◌≡◌, List}
use Rattle.s2id_core.specs.Span.{leaf_end}
use Rattle.s2ix_bag_pairs.specs.Collection.{Collection}
use Rattle.s2ix_table_spans.specs.SpanTable.{SpanRanges, IsSpanTable}
use Rattle.s2ix_table_heavy.specs.Chunks.{AreChunks, AreMarks}

-- chunks, and over all leaves the ranges of their marks
pub record IsHeavyTable (chunks : List Collection) (marks : SpanRanges) : Type 0 where
  pub are_chunks : AreChunks chunks
  pub are_marks : AreMarks chunks marks.held
  pub from : marks.from ≡ 1
  pub to : marks.to ≡ leaf_end
  pub table : IsSpanTable marks
