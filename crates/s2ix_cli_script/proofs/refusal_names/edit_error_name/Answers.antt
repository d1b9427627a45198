use Rattle.std.proofs.Common.{rules}
use Rattle.s2ix_cli_script.proofs.refusal_names.edit_error_name.Goals as goal

pub returns-in-JournalFull : goal.returns-in-JournalFull
returns-in-JournalFull c = search rules

pub returns-in-NoSuchLabel : goal.returns-in-NoSuchLabel
returns-in-NoSuchLabel c = search rules

pub returns-in-NotHeld : goal.returns-in-NotHeld
returns-in-NotHeld c = search rules

pub returns-in-TooFine : goal.returns-in-TooFine
returns-in-TooFine c = search rules

pub returns-in-NoSuchChange : goal.returns-in-NoSuchChange
returns-in-NoSuchChange c = search rules

pub returns-in-BelowZero : goal.returns-in-BelowZero
returns-in-BelowZero c = search rules

pub returns-in-NoChange : goal.returns-in-NoChange
returns-in-NoChange c = search rules

pub returns-in-TooManyCopies : goal.returns-in-TooManyCopies
returns-in-TooManyCopies c = search rules

pub returns-in-TooManyPairs : goal.returns-in-TooManyPairs
returns-in-TooManyPairs c = search rules

pub returns-in-OutOfMemory : goal.returns-in-OutOfMemory
returns-in-OutOfMemory c = search rules
