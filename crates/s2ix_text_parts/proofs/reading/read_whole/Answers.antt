-- A piece that memory was refused for was read all the same.
use Rattle.std.proofs.Common.{suc, arith}
use Rattle.std.proofs.KnownBytes.{Consumes-trans}
use Rattle.std.proofs.lemmas.Result.{err_from_is_err_and}
use Rattle.s2ix_text_parts.proofs.reading.read_whole.Goals as goal

pub returns-in_err-append-clause-stopped : goal.returns-in_err-append-clause-stopped
returns-in_err-append-clause-stopped g c =
    let exit = c.from_residual-in_err-append in
    let p = err_from_is_err_and exit.result exit.ensures.1 in
    rw p.1 (_, Consumes-trans _ _ _ _ _ c.pieces.invariant.0 c.in_ok-count.ensures.bytes)

pub returns-in_err-append-clause-memory : goal.returns-in_err-append-clause-memory
returns-in_err-append-clause-memory g c =
    let exit = c.from_residual-in_err-append in
    let p = err_from_is_err_and exit.result exit.ensures.1 in
    let some = c.if-count-eq0.false in
    let more = c.pieces-test.true in
    rw p.1 (λ _. (
      suc c.pieces._turn,
      omega arith,
      omega arith,
      (c.pieces.source, c.pieces.invariant.1, c.in_ok-count.count, omega arith, c.in_ok-count.ensures.call),
    ))
