-- A piece is carried out after those before it; the piece with no byte is the end.
use Rattle.std.proofs.Common.{◌+◌, ◌<◌, [], take, refl, sym, ap, ◌∙◌, inl, inr, subst, arith}
use Rattle.std.proofs.lemmas.Result.{err_from_is_err_and}
use Rattle.s2ix_cli_run.specs.Coming.{unended_after}
use Rattle.s2ix_cli_run.specs.Run.{BringsLast, EndWasRead}
use Rattle.s2ix_cli_run.proofs.Between.{AnswersInTurn-more, FaultAmong-asks, Between-last, Between-more, Between-flushing, Between-fault, Between-fault_last, Between-none, Between-ends, Between-reading, Between-ended, Between-ends_flushing, Between-stops, FaultAmong-flushes, FaultAmong-reads, FaultAmong-source, ReadsOn-more, goes_on, stops_at}
use Rattle.s2ix_cli_run.proofs.LineSteps.{plus_none}
use Rattle.s2ix_cli_run.proofs.script.run.Given.{Over}
use Rattle.s2ix_cli_run.proofs.script.run.Goals.{After-run_last}
use Rattle.s2ix_cli_run.proofs.script.run.Goals as goal

-- ---- before the first piece

pub pieces-init : goal.pieces-init
pieces-init g c = (Between-none _ _ _ _ _ c.new-held.ensures, refl, inl refl, refl, refl, (refl, refl))

-- ---- no more can be read

pub returns-in_err-count-clause-ran : goal.returns-in_err-count-clause-ran
returns-in_err-count-clause-ran g c =
    let p = err_from_is_err_and c.from_residual.result c.from_residual.ensures.1 in
    rw (p.1, p.2) (Between-reading _ _ _ _ _ _ _ c.pieces.invariant.0 c.in_err-count.ensures.bytes)

pub returns-clause-ran : goal.returns-clause-ran
returns-clause-ran g c = Between-ended _ _ _ _ _ _ c.pieces.invariant.0

pub returns-in_err-count-clause-answered : goal.returns-in_err-count-clause-answered
returns-in_err-count-clause-answered g c =
    let p = err_from_is_err_and c.from_residual.result c.from_residual.ensures.1 in
    rw (p.1, p.2) (c.pieces._turn, c.pieces.source, c.pieces.sink, c.pieces.invariant.5, c.in_err-count.ensures.bytes)

pub returns-clause-answered : goal.returns-clause-answered
returns-clause-answered g c = (c.pieces._turn, c.pieces.source, c.pieces.sink, c.pieces.invariant.5, refl)

-- ---- the end of the input

-- a piece with no byte is the end
end_read : (g : Over) (c : After-run_last g)
    → EndWasRead g.S.Source.left g.S.Source.gives c.args.options.turns c.args.source.now c.piece.new.self
end_read g c = (
  c.in_ok-count.ensures.end c.if-count-eq0.true,
  (
    c.pieces._turn,
    omega (arith, c.pieces-test.true),
    c.pieces.source,
    c.pieces.invariant.1,
    subst (λ n. g.S.Source.gives c.pieces.source n c.piece.new.self) c.if-count-eq0.true c.in_ok-count.ensures.call,
  ),
)

pub returns-in_err-so_far-clause-ran : goal.returns-in_err-so_far-clause-ran
returns-in_err-so_far-clause-ran g c =
    let exit = c.from_residual-in_err-so_far in
    let p = err_from_is_err_and exit.result exit.ensures.1 in
    let b =
    Between-last _ _ _ _ _ _ _ c.pieces.invariant.0 c.in_ok-count.ensures.bytes
    (ap (λ n. take n c.piece.new.buf) c.if-count-eq0.true) in
    let end = end_read g (goal.at-returns-in_err-so_far-clause-ran g c).After-run_last in
    rw (p.1, p.2) (Between-fault_last _ _ _ _ _ _ _ _ _ b _ _ _ _ end
    (c.in_err-so_far.ensures.runs c.args.options.stop (unended_after [] b.input) b.is_held))

pub returns-in_err-so_far-clause-flushed : goal.returns-in_err-so_far-clause-flushed
returns-in_err-so_far-clause-flushed g c =
    let exit = c.from_residual-in_err-so_far in
    let p = err_from_is_err_and exit.result exit.ensures.1 in
    let b = c.pieces.invariant.0 in
    rw (p.1, p.2) (FaultAmong-flushes g.K.Sink.flushes _ _ _ _ _
    (c.in_err-so_far.ensures.runs c.args.options.stop (unended_after [] b.input) b.is_held))

pub returns-in_err-so_far-clause-too_long : goal.returns-in_err-so_far-clause-too_long
returns-in_err-so_far-clause-too_long g c =
    let exit = c.from_residual-in_err-so_far in
    let p = err_from_is_err_and exit.result exit.ensures.1 in
    let b = c.pieces.invariant.0 in
    rw (p.1, p.2) (FaultAmong-reads _ _ _ (c.in_err-so_far.ensures.runs c.args.options.stop (unended_after [] b.input) b.is_held))

pub returns-in_err-so_far-clause-source_faults : goal.returns-in_err-so_far-clause-source_faults
returns-in_err-so_far-clause-source_faults g c =
    let exit = c.from_residual-in_err-so_far in
    let p = err_from_is_err_and exit.result exit.ensures.1 in
    let b = c.pieces.invariant.0 in
    rw (p.1, p.2) (c.in_ok-count.ensures.faults ∙ ap (λ n. n + 0) c.pieces.invariant.3
    ∙ ap (λ n. g.S.Source.fault_count c.args.source.now + n)
    (sym (FaultAmong-source _ _ _ (c.in_err-so_far.ensures.runs c.args.options.stop (unended_after [] b.input) b.is_held))))

pub returns-in_err-flush-clause-ran : goal.returns-in_err-flush-clause-ran
returns-in_err-flush-clause-ran g c =
    let exit = c.from_residual-in_err-flush in
    let p = err_from_is_err_and exit.result exit.ensures.1 in
    let b =
    Between-last _ _ _ _ _ _ _ c.pieces.invariant.0 c.in_ok-count.ensures.bytes
    (ap (λ n. take n c.piece.new.buf) c.if-count-eq0.true) in
    let end = end_read g (goal.at-returns-in_err-flush-clause-ran g c).After-run_last in
    rw (p.1, p.2) (Between-ends_flushing _ _ _ _ _ _ _ _ _ b _ _ _ _
    (c.in_ok-so_far.ensures.runs c.args.options.stop (unended_after [] b.input) b.is_held) c.in_err-flush.ensures.bytes _ end)

pub returns-then-count-eq0-clause-ran : goal.returns-then-count-eq0-clause-ran
returns-then-count-eq0-clause-ran g c =
    let b =
    Between-last _ _ _ _ _ _ _ c.pieces.invariant.0 c.in_ok-count.ensures.bytes
    (ap (λ n. take n c.piece.new.buf) c.if-count-eq0.true) in
    let end = end_read g (goal.at-returns-then-count-eq0-clause-ran g c).After-run_last in
    Between-ends _ _ _ _ _ _ _ _ _ b _ _ _ _ (c.in_ok-so_far.ensures.runs c.args.options.stop (unended_after [] b.input) b.is_held)
    c.in_ok-flush.ensures.bytes _ end

pub returns-in_err-so_far-clause-answered : goal.returns-in_err-so_far-clause-answered
returns-in_err-so_far-clause-answered g c =
    let exit = c.from_residual-in_err-so_far in
    let p = err_from_is_err_and exit.result exit.ensures.1 in
    let b = c.pieces.invariant.0 in
    rw (p.1, p.2) (c.pieces._turn, c.pieces.source, c.pieces.sink, c.pieces.invariant.5, FaultAmong-asks g.S.Source _ _ _ _ _ _ (c.in_err-so_far.ensures.runs c.args.options.stop (unended_after [] b.input) b.is_held) c.in_ok-count.ensures.call)

pub returns-in_err-flush-clause-answered : goal.returns-in_err-flush-clause-answered
returns-in_err-flush-clause-answered g c =
    let exit = c.from_residual-in_err-flush in
    let p = err_from_is_err_and exit.result exit.ensures.1 in
    rw (p.1, p.2) (c.pieces._turn, c.pieces.source, c.pieces.sink, c.pieces.invariant.5, (_, c.in_ok-count.ensures.call))

pub returns-then-count-eq0-clause-answered : goal.returns-then-count-eq0-clause-answered
returns-then-count-eq0-clause-answered g c = (c.pieces._turn, c.pieces.source, c.pieces.sink, c.pieces.invariant.5, (_, c.in_ok-count.ensures.call))

-- ---- a piece

pub returns-in_err-end-clause-ran : goal.returns-in_err-end-clause-ran
returns-in_err-end-clause-ran g c =
    let exit = c.from_residual-in_err-end in
    let p = err_from_is_err_and exit.result exit.ensures.1 in
    let b = c.pieces.invariant.0 in
    rw (p.1, p.2) (Between-fault _ _ _ _ _ _ _ _ _ _ _ b c.in_ok-count.ensures.bytes _ _ _ _
    (c.in_err-end.ensures.runs (unended_after [] b.input) b.is_held))

pub returns-in_err-flush-2-clause-ran : goal.returns-in_err-flush-2-clause-ran
returns-in_err-flush-2-clause-ran g c =
    let exit = c.from_residual-in_err-flush-2 in
    let p = err_from_is_err_and exit.result exit.ensures.1 in
    let b = c.pieces.invariant.0 in
    rw (p.1, p.2) (Between-flushing _ _ _ _ _ _ _ _ _ _ _ b c.in_ok-count.ensures.bytes _ _ c.in_err-flush-2.ensures.bytes _ _ _ _
    (c.in_ok-end.ensures.runs (unended_after [] b.input) b.is_held))

pub returns-in-Stops-clause-ran : goal.returns-in-Stops-clause-ran
returns-in-Stops-clause-ran g c =
    let b = c.pieces.invariant.0 in
    let front = unended_after [] b.input in
    let last : BringsLast g.S.Source.left g.S.Source.gives c.args.options.turns c.args.source.now c.piece.new.self b.input _ =
    record {
      mid = c.pieces.source;
      pieces = c.pieces._turn;
      within = omega (arith, c.pieces-test.true);
      reads_on = c.pieces.invariant.1;
      before = b.consumed;
      count = _;
      gives_last = c.in_ok-count.ensures.call;
      last = c.in_ok-count.ensures.bytes;
    } in
    Between-stops _ _ _ _ _ _ _ _ _ _ _ b c.in_ok-count.ensures.bytes _ _ c.in_ok-flush-2.ensures.bytes _ _ _
    (stops_at _ _ front _ _ _ _ c.in-Stops.is (c.in_ok-end.ensures.runs front b.is_held)) last

pub returns-in_err-end-clause-answered : goal.returns-in_err-end-clause-answered
returns-in_err-end-clause-answered g c =
    let exit = c.from_residual-in_err-end in
    let p = err_from_is_err_and exit.result exit.ensures.1 in
    let b = c.pieces.invariant.0 in
    rw (p.1, p.2) (c.pieces._turn, c.pieces.source, c.pieces.sink, c.pieces.invariant.5, FaultAmong-asks g.S.Source _ _ _ _ _ _ (c.in_err-end.ensures.runs (unended_after [] b.input) b.is_held) c.in_ok-count.ensures.call)

pub returns-in_err-flush-2-clause-answered : goal.returns-in_err-flush-2-clause-answered
returns-in_err-flush-2-clause-answered g c =
    let exit = c.from_residual-in_err-flush-2 in
    let p = err_from_is_err_and exit.result exit.ensures.1 in
    rw (p.1, p.2) (c.pieces._turn, c.pieces.source, c.pieces.sink, c.pieces.invariant.5, (_, c.in_ok-count.ensures.call))

pub returns-in-Stops-clause-answered : goal.returns-in-Stops-clause-answered
returns-in-Stops-clause-answered g c = (c.pieces._turn, c.pieces.source, c.pieces.sink, c.pieces.invariant.5, (_, c.in_ok-count.ensures.call))

pub pieces-preserved : goal.pieces-preserved
pieces-preserved g c =
    let b = c.pieces.invariant.0 in
    let front = unended_after [] b.input in
    let some : 0 < c.in_ok-count.count = let some = c.if-count-eq0.false in omega arith in
    let more = Between-more _ _ _ _ _ _ _ _ _ _ _ b c.in_ok-count.ensures.bytes _ _ c.in_ok-flush-2.ensures.bytes _ _ _
    (goes_on _ _ front _ _ _ _ c.in-GoesOn.is (c.in_ok-end.ensures.runs front b.is_held)) in (
      more,
      ReadsOn-more g.S.Source.gives _ _ _ _ _ c.pieces.invariant.1 some c.in_ok-count.ensures.call,
      inr (_, c.in_ok-flush-2.ensures.call),
      c.in_ok-count.ensures.faults ∙ plus_none _ ∙ c.pieces.invariant.3,
      c.in_ok-flush-2.ensures.faults ∙ plus_none _ ∙ c.in_ok-end.ensures.faults ∙ plus_none _ ∙ c.pieces.invariant.4,
      AnswersInTurn-more g.S.Source g.K.Sink _ _ _ _ _ _ _ _ _ c.pieces.invariant.5 some c.in_ok-count.ensures.call
          (record {
            input = more.input;
            consumed = more.consumed;
            output = more.reached.stands.output;
            flushed = (_, c.in_ok-flush-2.ensures.call);
          }),
    )
