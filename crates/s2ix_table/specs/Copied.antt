-- A table of copied lists as its ranges.
use Rattle.std.specs.Prelude.{List, map}
use Rattle.s2ix_table.specs.declared.copied_range.CopiedRange.{CopiedRange}
use Rattle.s2ix_table_walk.specs.Table.{Range}

abbrev pub range_of : CopiedRange → Range
range_of range = record { start = range.start; limit = range.limit; contents = range.contents.items }

abbrev pub ranges_of : List CopiedRange → List Range
ranges_of ranges = map range_of ranges
