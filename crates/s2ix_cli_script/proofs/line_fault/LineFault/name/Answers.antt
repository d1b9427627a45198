use Rattle.std.proofs.Common.{rules}
use Rattle.s2ix_cli_script.proofs.line_fault.LineFault.name.Goals as goal

pub returns-in-LineTooLong : goal.returns-in-LineTooLong
returns-in-LineTooLong c = search rules

pub returns-in-BadCommand : goal.returns-in-BadCommand
returns-in-BadCommand c = search rules

pub returns-in-BadArguments : goal.returns-in-BadArguments
returns-in-BadArguments c = search rules

pub returns-in-BadToken : goal.returns-in-BadToken
returns-in-BadToken c = search rules

pub returns-in-BadLabel : goal.returns-in-BadLabel
returns-in-BadLabel c = search rules

pub returns-in-BadCount : goal.returns-in-BadCount
returns-in-BadCount c = search rules

pub returns-in-BadLevel : goal.returns-in-BadLevel
returns-in-BadLevel c = search rules

pub returns-in-BadNumber : goal.returns-in-BadNumber
returns-in-BadNumber c = search rules
