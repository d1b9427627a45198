-- If memory was wanted for a part of a line, it was for the whole line.
use Rattle.std.proofs.Common.{◌≡◌, Bool, true, false, if◌then◌else◌, Result, Ok, Err, Some, None, ap}
use Rattle.s2ix_cli_script.specs.declared.instruction.Instruction.{Instruction}
use Rattle.s2ix_cli_script.specs.declared.line_fault.LineError.{LineError}
use Rattle.s2ix_cli_script.specs.declared.line_fault.LineError.TheVariants.{Fault, OutOfMemory}
use Rattle.s2ix_cli_script.specs.declared.line_fault.LineFault.{LineFault}
use Rattle.s2ix_cli_script.specs.Named.{IsFault, map_ok}
use Rattle.s2ix_cli_script.specs.Meaning.{asks_on_union, is_on_union}

-- a line that is no comment
pub line_fault : (is_comment : Bool) (meaning : Result Instruction LineFault) (error : LineError) → is_comment ≡ false
    → IsFault is_on_union error meaning
    → IsFault asks_on_union error (if is_comment then Ok None else map_ok Some meaning)
line_fault true meaning error is fault = cc
line_fault false meaning (Fault e) is fault = ap (map_ok Some) fault
line_fault false (Ok instruction) OutOfMemory is wants = wants
line_fault false (Err e) OutOfMemory is wants = cc
