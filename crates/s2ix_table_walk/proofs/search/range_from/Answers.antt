use Rattle.std.proofs.Common.{◌≡◌, arith}
use Rattle.s2id_core.specs.CellId.{raw_of, first_of}
use Rattle.s2id_core.proofs.Nested.{span}
use Rattle.s2ix_table_walk.proofs.search.range_from.Goals as goal

pub search-requires-clause-within : goal.search-requires-clause-within
search-requires-clause-within g c =
    let s = span (raw_of c.args.cell) c.args.cell.valid in
    omega (arith, s.ends, s.from, s.to, c.span_start-start.ensures)

pub returns-else-seen-start-clause-found : goal.returns-else-seen-start-clause-found
returns-else-seen-start-clause-found g c =
    let s = span (raw_of c.args.cell) c.args.cell.valid in
    let s1 = s.ends in
    let b = c.requires.beyond in
    let f = c.requires.at_hand (omega arith) in
    let f1 = f.start in
    let f2 = f.limit in
    let n : c.span_start-start.result ≡ first_of c.args.cell = c.span_start-start.ensures in
    let le = c.if-seen-start.false in
    record { within = f.within; start = omega arith; limit = omega arith }

pub ahead-candidates-requires-clause-from : goal.ahead-candidates-requires-clause-from
ahead-candidates-requires-clause-from g c =
    let s = span (raw_of c.args.cell) c.args.cell.valid in
    let test = c.if-seen-start.true in
    let f = c.requires.at_hand (omega (arith, s.ends, s.from, s.to, c.span_start-start.ensures)) in
    f.within

pub ahead-candidates-requires-clause-start : goal.ahead-candidates-requires-clause-start
ahead-candidates-requires-clause-start g c =
    let s = span (raw_of c.args.cell) c.args.cell.valid in
    let test = c.if-seen-start.true in
    let f = c.requires.at_hand (omega (arith, s.ends, s.from, s.to, c.span_start-start.ensures)) in
    let start = f.start in
    omega arith
