-- How many faults a call's answer tells of, so that a device's counter is one equation.
use Rattle.std.specs.Prelude.{◌≡◌, ℕ, ◌-◌, ◌^◌, ◌<◌, Result, Ok, Err}
use Rattle.s2ix_text_parts.specs.declared.source.ReadFault.{ReadFault}
use Rattle.s2ix_text_parts.specs.declared.run_fault.RunFault.{RunFault}
use Rattle.s2ix_text_parts.specs.declared.run_fault.RunFault.TheVariants.{Read, Write, OutOfMemory, ReaderTooLong}
use Rattle.s2ix_text_parts.specs.declared.sink.WriteFault.{WriteFault}
use Rattle.s2ix_text_parts.specs.Pieces.{ReadsOn}

-- one fault more can be counted
abbrev pub CanCount : ℕ → Type 0
CanCount faults = faults < 2 ^ 64 - 1

-- 1 if the answer is a read fault, else 0
abbrev pub read_faults : {A : Type 0} → Result A ReadFault → ℕ
read_faults (Ok _) = 0
read_faults (Err _) = 1

-- 1 if the answer is a write fault, else 0
abbrev pub write_faults : {A : Type 0} → Result A WriteFault → ℕ
write_faults (Ok _) = 0
write_faults (Err _) = 1

-- 1 if the answer is a fault of the source, else 0
abbrev pub source_faults : {A : Type 0} → Result A RunFault → ℕ
source_faults (Ok _) = 0
source_faults (Err Read) = 1
source_faults (Err Write) = 0
source_faults (Err OutOfMemory) = 0
source_faults (Err ReaderTooLong) = 0

-- 1 if the answer is a fault of the sink, else 0
abbrev pub sink_faults : {A : Type 0} → Result A RunFault → ℕ
sink_faults (Ok _) = 0
sink_faults (Err Read) = 0
sink_faults (Err Write) = 1
sink_faults (Err OutOfMemory) = 0
sink_faults (Err ReaderTooLong) = 0

-- the reader is called too long only if exactly `turns` pieces were read and none was the end
abbrev pub IsPatient : {S : Type 0} → (S → ℕ → S → Type 0) → RunFault → ℕ → S → S → Type 0
IsPatient gives fault turns old new = fault ≡ ReaderTooLong → ReadsOn gives turns old new

-- the fault is want of memory only if this holds
abbrev pub IsWantOnlyIf : Type 0 → RunFault → Type 0
IsWantOnlyIf wants fault = fault ≡ OutOfMemory → wants
