-- At a fault, the parts before went out, and a front of this one.
use Rattle.std.proofs.Common.{ℕ, List, arith}
use Rattle.std.specs.Borrow.{Bor}
use Rattle.std.proofs.lemmas.Option.{slice_get-get_or}
use Rattle.s2ix_text_parts.proofs.Writing.{Writes-fault, Writes-item_fault}
use Rattle.s2ix_text_parts.proofs.put.put_parts.Goals as goal

pub returns-in_err-put_all : goal.returns-in_err-put_all
returns-in_err-put_all g c =
    Writes-fault _ c.from_residual.ensures.0
    (Writes-item_fault (λ (part : Bor (List ℕ)). part.now) c.args.parts.now c.loop-part.part-index _
    (slice_get-get_or c.args.parts.now c.loop-part.part-index _ (omega arith)) c.loop-part.invariant c.in_err-put_all.ensures)
