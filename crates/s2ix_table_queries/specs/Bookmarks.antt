-- Where a table was read last.
use Rattle.s2ix_table_queries.specs.declared.bookmark.Bookmark.{Bookmark}

-- a table wasn't read yet: no part, and no range, has the greatest number that there is
abbrev pub no_bookmark : Bookmark
no_bookmark = record { part = 18446744073709551615; range = 18446744073709551615 }
