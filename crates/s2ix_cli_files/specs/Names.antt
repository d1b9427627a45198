-- The names by which faults of texts are printed.
use Rattle.std.specs.Prelude.{ℕ, List, codes}
use Rattle.s2ix_text.specs.declared.dump_error.DumpFault.{DumpFault}
use Rattle.s2ix_text.specs.declared.dump_error.DumpFault.TheVariants as dump
use Rattle.s2ix_text.specs.declared.journal_error.JournalFault.{JournalFault}
use Rattle.s2ix_text.specs.declared.journal_error.JournalFault.TheVariants as journal

-- the name of a dump's fault
abbrev pub dump_fault_name : DumpFault → List ℕ
dump_fault_name dump.Truncated = codes "Truncated"
dump_fault_name dump.BadHeader = codes "BadHeader"
dump_fault_name dump.BadEnd = codes "BadEnd"
dump_fault_name dump.BadLine = codes "BadLine"
dump_fault_name dump.BadToken = codes "BadToken"
dump_fault_name dump.BadLabel = codes "BadLabel"
dump_fault_name dump.BadCount = codes "BadCount"
dump_fault_name dump.Unsorted = codes "Unsorted"
dump_fault_name dump.TooManyCopies = codes "TooManyCopies"
dump_fault_name dump.TooManyPairs = codes "TooManyPairs"
dump_fault_name dump.TrailingBytes = codes "TrailingBytes"

-- the name of a journal's fault
abbrev pub journal_fault_name : JournalFault → List ℕ
journal_fault_name journal.Truncated = codes "Truncated"
journal_fault_name journal.BadHeader = codes "BadHeader"
journal_fault_name journal.BadEnd = codes "BadEnd"
journal_fault_name journal.BadLine = codes "BadLine"
journal_fault_name journal.BadToken = codes "BadToken"
journal_fault_name journal.BadLabel = codes "BadLabel"
journal_fault_name journal.BadCount = codes "BadCount"
journal_fault_name journal.NoDifference = codes "NoDifference"
journal_fault_name journal.Unsorted = codes "Unsorted"
journal_fault_name journal.TooManyCopies = codes "TooManyCopies"
journal_fault_name journal.TooManyChanges = codes "TooManyChanges"
journal_fault_name journal.TrailingBytes = codes "TrailingBytes"
