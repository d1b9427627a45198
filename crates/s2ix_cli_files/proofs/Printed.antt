-- Telling an answer: its text goes out, and a flush after it.
use Rattle.std.proofs.Common.{◌≡◌, ℕ, ◌<◌, Bool, false, List, [], ◌∷◌, length, Result, Ok, Err, refl, sym, subst, arith}
use Rattle.std.specs.Io.KnownBytes.{Appends, Keeps}
use Rattle.std.proofs.KnownBytes.{Appends-kept}
use Rattle.s2ix_text_parts.specs.declared.run_fault.RunFault.{RunFault}
use Rattle.s2ix_text_parts.specs.declared.run_fault.RunFault.TheVariants as fault
use Rattle.s2ix_text_parts.specs.declared.sink.Sink.{Ghosts as Sink}
use Rattle.s2ix_text_parts.specs.declared.sink.WriteFault.{WriteFault}
use Rattle.s2ix_text_parts.specs.Puts.{Writes}
use Rattle.s2ix_text_parts.proofs.Prefixes.{IsFront-refl}
use Rattle.s2ix_cli_files.specs.declared.refusal.Refusal.{Refusal}
use Rattle.s2ix_cli_files.specs.declared.refusal.Refusal.TheVariants.{Dump, Second, Journal, Mismatch, TooManyCopies, TooManyPairs}
use Rattle.s2ix_cli_files.specs.declared.refusal.TextsError.{TextsError}
use Rattle.s2ix_cli_files.specs.declared.refusal.TextsError.TheVariants.{Refused}
use Rattle.s2ix_cli_files.specs.Answers.{Answer, IsRefusalAnswer, Sends, Prints}
use Rattle.s2ix_cli_files.specs.Refusals.{refusal_line}

-- an answer with a text
abbrev pub answer_with : List ℕ → Bool → Answer
answer_with text accepted = record { text = text; accepted = accepted }

sends_some : {K : Type 0} (sink : Sink K) (old written new : K) (text : List ℕ) → 0 < length text
    → Appends (sink.taken old) (sink.taken written) text → sink.flushes written new → Keeps (sink.taken written) (sink.taken new)
    → Sends sink old new text
sends_some sink old written new [] some appends flushed keeps = absurd (omega (arith, some))
sends_some sink old written new (byte ∷ bytes) some appends flushed keeps = (written, appends, flushed, keeps)

-- the text was written, and the sink flushed
pub printed_whole : {K A : Type 0} {old written new : K} {x : A} {text : List ℕ} (sink : Sink K) (IsAnswer : Answer → Type 0) (accepted : Bool)
    → 0 < length text → IsAnswer (answer_with text accepted) → Writes sink old written (Ok x) text → sink.flushes written new
    → Keeps (sink.taken written) (sink.taken new)
    → Prints sink IsAnswer old new (Ok accepted)
printed_whole {K} {A} {old} {written} {new} {x} {text} sink IsAnswer accepted some is writes flushed keeps =
    (answer_with text accepted, is, sends_some sink old written new text some writes.puts flushed keeps, refl)

-- the sink failed in the text
pub printed_front : {K A : Type 0} {old new : K} {answered : WriteFault} {text : List ℕ} (sink : Sink K) (IsAnswer : Answer → Type 0)
    (accepted : Bool)
    → IsAnswer (answer_with text accepted) → Writes {A = A} sink old new (Err answered) text
    → Prints sink IsAnswer old new (Err fault.Write)
printed_front {text = text} sink IsAnswer accepted is writes = (answer_with text accepted, is, writes.puts)

-- it failed in the flush
pub printed_unflushed : {K A : Type 0} {old written new : K} {x : A} {text : List ℕ} (sink : Sink K) (IsAnswer : Answer → Type 0)
    (accepted : Bool)
    → IsAnswer (answer_with text accepted) → Writes sink old written (Ok x) text → Keeps (sink.taken written) (sink.taken new)
    → Prints sink IsAnswer old new (Err fault.Write)
printed_unflushed {K} {A} {old} {written} {new} {x} {text} sink IsAnswer accepted is writes keeps = (
  answer_with text accepted,
  is,
  record {
    front = text;
    is_front = IsFront-refl text;
    appends = Appends-kept (sink.taken old) (sink.taken written) (sink.taken new) text writes.puts keeps;
  },
)

-- what is told of some answers is told of others that they are
pub printed_as : {K : Type 0} (sink : Sink K) (IsAnswer IsOther : Answer → Type 0) (old new : K) (result : Result Bool RunFault)
    → ((answer : Answer) → IsAnswer answer → IsOther answer) → Prints sink IsAnswer old new result → Prints sink IsOther old new result
printed_as sink IsAnswer IsOther old new (Ok accepted) as_other answered = (answered.0, as_other answered.0 answered.1, answered.2, answered.3)
printed_as sink IsAnswer IsOther old new (Err fault.Write) as_other answered = (answered.0, as_other answered.0 answered.1, answered.2)
printed_as sink IsAnswer IsOther old new (Err fault.OutOfMemory) as_other answered = answered
printed_as sink IsAnswer IsOther old new (Err fault.Read) as_other answered = answered
printed_as sink IsAnswer IsOther old new (Err fault.ReaderTooLong) as_other answered = answered

-- the line of a refusal is the answer of an error that tells it
pub refused_so : (error : TextsError) (refusal : Refusal) → error ≡ Refused refusal
    → IsRefusalAnswer error (answer_with (refusal_line refusal) false)
refused_so error refusal is =
    let Printed : TextsError → Type 0 = λ e. IsRefusalAnswer e (answer_with (refusal_line refusal) false) in subst Printed (sym is) refl

-- the line of a refusal is not empty
pub some_refusal : (refusal : Refusal) → 0 < length (refusal_line refusal)
some_refusal (Dump line fault) = omega arith
some_refusal (Second line fault) = omega arith
some_refusal (Journal line fault) = omega arith
some_refusal (Mismatch change entry) = omega arith
some_refusal (TooManyCopies change) = omega arith
some_refusal (TooManyPairs change) = omega arith
