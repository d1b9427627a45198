-- What a run and the flush after it come to.
use Rattle.std.specs.Prelude.{⊤, Bool, Result, Ok, Err}
use Rattle.s2ix_text_parts.specs.declared.run_fault.RunFault.{RunFault}
use Rattle.s2ix_text_parts.specs.declared.run_fault.RunFault.TheVariants.{Write}
use Rattle.s2ix_text_parts.specs.declared.sink.WriteFault.{WriteFault}

-- the first fault: the run's, or else that of the flush after it
abbrev pub flushed_end : Result Bool RunFault → Result ⊤ WriteFault → Result Bool RunFault
flushed_end (Err fault) flushed = Err fault
flushed_end (Ok accepted) (Ok done) = Ok accepted
flushed_end (Ok accepted) (Err fault) = Err Write
