-- The names that faulty lines are answered by.
use Rattle.std.specs.Prelude.{ℕ, List, codes}
use Rattle.s2ix_cli_script.specs.declared.line_fault.LineFault.{LineFault}
use Rattle.s2ix_cli_script.specs.declared.line_fault.LineFault.TheVariants as fault

-- the name of a line's fault
abbrev pub fault_name : LineFault → List ℕ
fault_name fault.LineTooLong = codes "LineTooLong"
fault_name fault.BadCommand = codes "BadCommand"
fault_name fault.BadArguments = codes "BadArguments"
fault_name fault.BadToken = codes "BadToken"
fault_name fault.BadLabel = codes "BadLabel"
fault_name fault.BadCount = codes "BadCount"
fault_name fault.BadLevel = codes "BadLevel"
fault_name fault.BadNumber = codes "BadNumber"
