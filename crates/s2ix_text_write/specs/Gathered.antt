-- Lines that are gathered before they are put.
use Rattle.std.specs.Prelude.{◌≡◌, ℕ, List, ◌++◌, take, Result, Ok, Err}
use Rattle.s2ix_text_parts.specs.Puts.{Writes}
use Rattle.s2ix_text_parts.specs.declared.sink.Sink.{Ghosts as Sink}
use Rattle.s2ix_text_parts.specs.declared.sink.WriteFault.{WriteFault}
use Rattle.s2ix_text_write.specs.declared.block.Block.{Block}

-- what a block holds that is not put yet
abbrev pub gathered_in : Block → List ℕ
gathered_in block = take block.len block.bytes

-- of a text a front was put, and the rest is gathered
pub record IsGathered {K : Type 0} (sink : Sink K) (old new : K) (text rest : List ℕ) : Type 0 where
  pub front : List ℕ
  pub whole : text ≡ front ++ rest
  pub wrote : Writes {A = Unit {0}} sink old new (Ok tt) front

-- a text came after what was gathered: at `Ok` a front of both was put and the rest is gathered, at `Err` the sink failed in them
abbrev pub Gathers : {K A : Type 0} → Sink K → K → K → Result A WriteFault → (before after text : List ℕ) → Type 0
Gathers sink old new (Ok _) before after text = IsGathered sink old new (before ++ text) after
Gathers {K} {A} sink old new (Err fault) before after text = Writes {A = A} sink old new (Err fault) (before ++ text)
