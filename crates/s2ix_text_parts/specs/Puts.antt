-- What of a text went out to a sink.
use Rattle.std.specs.Prelude.{◌≡◌, ℕ, ◌+◌, List, ◌++◌, flat_map, Result, Ok, Err}
use Rattle.std.specs.declared.option.Option.{Option}
use Rattle.std.specs.Borrow.{Bor}
use Rattle.std.specs.Io.KnownBytes.{Appends}
use Rattle.s2ix_text_parts.specs.DeviceFaults.{write_faults}
use Rattle.s2ix_text_parts.specs.declared.sink.Sink.{Ghosts as Sink}
use Rattle.s2ix_text_parts.specs.declared.sink.WriteFault.{WriteFault}

-- `whole` begins with `front`
pub record IsFront (front whole : List ℕ) : Type 0 where
  pub rest : List ℕ
  pub whole_is : whole ≡ front ++ rest

-- known bytes grew by a front of `text`: nothing of it, all of it, or any part from its beginning
pub record AppendsFront (old new : Option (List ℕ)) (text : List ℕ) : Type 0 where
  pub front : List ℕ
  pub is_front : IsFront front text
  pub appends : Appends old new front

-- at `Ok` known bytes grew by all of `text`, at `Err` by a front of it
abbrev pub Puts : {A E : Type 0} → Option (List ℕ) → Option (List ℕ) → Result A E → List ℕ → Type 0
Puts old new (Ok _) text = Appends old new text
Puts old new (Err _) text = AppendsFront old new text

-- a call wrote `text` to a sink, whole at `Ok` and a front of it at `Err`; it did not flush, and its answer tells of each call of the sink
-- that failed. `sink` is what clauses see of the sinks of a type: a clause names it `K.Sink`
pub record Writes {K A : Type 0} (sink : Sink K) (old new : K) (result : Result A WriteFault) (text : List ℕ) : Type 0 where
  pub puts : Puts (sink.taken old) (sink.taken new) result text
  pub unflushed : sink.flush_mark new ≡ sink.flush_mark old
  pub faults : sink.fault_count new ≡ sink.fault_count old + write_faults result

-- the texts that the parts refer to, one after the other
abbrev pub text_of_parts : List (Bor (List ℕ)) → List ℕ
text_of_parts parts = flat_map (λ (part : Bor (List ℕ)). part.now) parts
