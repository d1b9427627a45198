use Rattle.std.proofs.Common.{rules}
use Rattle.s2ix_cli_files.proofs.names.dump_fault_name.Goals as goal

pub returns-in-Truncated : goal.returns-in-Truncated
returns-in-Truncated c = search rules

pub returns-in-BadHeader : goal.returns-in-BadHeader
returns-in-BadHeader c = search rules

pub returns-in-BadEnd : goal.returns-in-BadEnd
returns-in-BadEnd c = search rules

pub returns-in-BadLine : goal.returns-in-BadLine
returns-in-BadLine c = search rules

pub returns-in-BadToken : goal.returns-in-BadToken
returns-in-BadToken c = search rules

pub returns-in-BadLabel : goal.returns-in-BadLabel
returns-in-BadLabel c = search rules

pub returns-in-BadCount : goal.returns-in-BadCount
returns-in-BadCount c = search rules

pub returns-in-Unsorted : goal.returns-in-Unsorted
returns-in-Unsorted c = search rules

pub returns-in-TooManyCopies : goal.returns-in-TooManyCopies
returns-in-TooManyCopies c = search rules

pub returns-in-TooManyPairs : goal.returns-in-TooManyPairs
returns-in-TooManyPairs c = search rules

pub returns-in-TrailingBytes : goal.returns-in-TrailingBytes
returns-in-TrailingBytes c = search rules
