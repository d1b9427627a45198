-- What the faults of texts print.
use Rattle.std.specs.Prelude.{ℕ, List, codes}
use Rattle.s2ix_text.specs.declared.dump_error.DumpFault.{DumpFault}
use Rattle.s2ix_text.specs.declared.dump_error.DumpFault.TheVariants as dump
use Rattle.s2ix_text.specs.declared.journal_error.JournalFault.{JournalFault}
use Rattle.s2ix_text.specs.declared.journal_error.JournalFault.TheVariants as journal

-- what is wrong with a line of a dump, in words
abbrev pub dump_fault_text : DumpFault → List ℕ
dump_fault_text dump.Truncated = codes "a line is missing or has no line feed"
dump_fault_text dump.BadHeader = codes "the first line is neither `s2ix 1` nor `s2ix 2`"
dump_fault_text dump.BadEnd = codes "the end line doesn't count the lines above it"
dump_fault_text dump.BadLine = codes "not three parts with one space between each two"
dump_fault_text dump.BadToken = codes "the first part is no canonical token"
dump_fault_text dump.BadLabel = codes "the second part is no canonical number of a label"
dump_fault_text dump.BadCount = codes "the third part is no canonical number from 1 to the greatest count of the header's version: 65535, or 4294967295"
dump_fault_text dump.Unsorted = codes "the pair is not above that of the line before"
dump_fault_text dump.TooManyCopies = codes "a count above the limit"
dump_fault_text dump.TooManyPairs = codes "more pairs than the limit"
dump_fault_text dump.TrailingBytes = codes "bytes behind the end line"

-- what is wrong with a line of a journal, in words
abbrev pub journal_fault_text : JournalFault → List ℕ
journal_fault_text journal.Truncated = codes "a line is missing or has no line feed"
journal_fault_text journal.BadHeader = codes "the first line is neither `s2ix-journal 1` nor `s2ix-journal 2`"
journal_fault_text journal.BadEnd = codes "the end line doesn't count the groups above it"
journal_fault_text journal.BadLine = codes "neither `change` and a number, nor the four parts of an entry"
journal_fault_text journal.BadToken = codes "the first part is no canonical token"
journal_fault_text journal.BadLabel = codes "the second part is no canonical number of a label"
journal_fault_text journal.BadCount = codes "a number that is not canonical or out of its range"
journal_fault_text journal.NoDifference = codes "the counts before and after are equal"
journal_fault_text journal.Unsorted = codes "the pair is not above that of the line before"
journal_fault_text journal.TooManyCopies = codes "a count above the limit"
journal_fault_text journal.TooManyChanges = codes "more changes than the limit"
journal_fault_text journal.TrailingBytes = codes "bytes behind the end line"
