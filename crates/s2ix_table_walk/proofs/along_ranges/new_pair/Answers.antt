use Rattle.std.proofs.Common.{drop, arith}
use Rattle.s2ix_table_walk.proofs.WalkSteps.{new_none, new_stop, new_more}
use Rattle.s2ix_table_walk.proofs.along_ranges.new_pair.Goals as goal

pub returns-in_err-place-clause-ends : goal.returns-in_err-place-clause-ends
returns-in_err-place-clause-ends g c e =
    new_none (g.R.Reader.shown c.args.reader.now).chain c.args.from c.args.place c.in_err-place.was

pub returns-then-span_start-from-clause-ends : goal.returns-then-span_start-from-clause-ends
returns-then-span_start-from-clause-ends g c e =
    let chain = (g.R.Reader.shown c.args.reader.now).chain in
    let p = c.in_ok-place.place in
    new_stop chain c.args.from c.args.place p c.node-held.result (drop 1 (chain p)) c.in_ok-place.was c.node-held.ensures.held
    (omega (arith, c.span_start.ensures, c.if-span_start-from.true))

pub returns-clause-gives : goal.returns-clause-gives
returns-clause-gives g c =
    let chain = (g.R.Reader.shown c.args.reader.now).chain in
    let p = c.in_ok-place.place in
    new_more chain c.args.from c.args.place p c.node-held.result (drop 1 (chain p)) c.in_ok-place.was c.node-held.ensures.held
    (omega (arith, c.span_start.ensures, c.if-span_start-from.false))
