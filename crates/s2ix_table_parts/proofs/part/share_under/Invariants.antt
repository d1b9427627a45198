use Rattle.std.proofs.Common.{◌≡◌, ◌++◌, replicate, take}
use Rattle.s2ix_table_parts.specs.FaceSpans.{heavy_places_of, spans_of, tables_of}
use Rattle.s2ix_table_parts.proofs.part.share_under.Given as goal

abbrev pub invariant-loop-table : goal.invariant-loop-table
invariant-loop-table l =
    (spans_of l.parts.items ≡ spans_of l.fn.parts.items ++ take l.table-index (tables_of l.tables))
    × (heavy_places_of l.parts.items ≡ heavy_places_of l.fn.parts.items ++ replicate l.table-index l.heavy_place)
