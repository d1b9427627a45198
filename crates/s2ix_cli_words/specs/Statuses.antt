-- The program's statuses.
use Rattle.std.specs.Prelude.{ℕ}
use Rattle.s2ix_text_parts.specs.declared.run_fault.RunFault.{RunFault}
use Rattle.s2ix_text_parts.specs.declared.run_fault.RunFault.TheVariants.{OutOfMemory}
use Rattle.s2ix_cli_words.specs.declared.ending.Ending.{Ending}
use Rattle.s2ix_cli_words.specs.declared.ending.Ending.TheVariants.{Accepted, Refused, Usage, Fault}

-- want of memory, or another fault of a run
abbrev pub fault_status : RunFault → ℕ
fault_status OutOfMemory = 4
fault_status _ = 3

abbrev pub status_of : Ending → ℕ
status_of Accepted = 0
status_of Refused = 1
status_of Usage = 2
status_of (Fault fault) = fault_status fault
