use Rattle.std.proofs.Common.{arith, subst}
use Rattle.s2ix_table_spans.specs.Starts.{IsLastStart}
use Rattle.s2id_core.specs.CellId.{raw_of}
use Rattle.s2id_core.proofs.Nested.{span}
use Rattle.s2ix_table_spans.proofs.Bases.{cut_within, cut_to_end, cell_in_span}
use Rattle.s2ix_table_spans.proofs.Windows.{starts_rise, first_start}
use Rattle.s2ix_table_spans.proofs.splice.Before.ranges_over.Goals as goal

pub last_start-first-requires-clause-rises : goal.last_start-first-requires-clause-rises
last_start-first-requires-clause-rises c =
    starts_rise c.args.self.held.now c.args.self.from c.args.self.to c.args.self.starts.now c.requires.nodes.table

pub last_start-last-requires-clause-rises : goal.last_start-last-requires-clause-rises
last_start-last-requires-clause-rises c =
    starts_rise c.args.self.held.now c.args.self.from c.args.self.to c.args.self.starts.now c.requires.nodes.table

pub last_start-last-requires-clause-first : goal.last_start-last-requires-clause-first
last_start-last-requires-clause-first c =
    let t = c.args.self in
    let cell = c.args.cell in
    let s = span (raw_of cell) cell.valid in
    let a = s.from in
    let b = s.to in
    let first = (first_start t.held.now t.from t.to t.starts.now c.requires.nodes.table).1 in
    let within = (cell_in_span t.held.now cell t.from t.to c.requires.nodes.within c.requires.holds).0 in
    let end = c.span_end-end.ensures in
    omega arith

pub returns-then-end-self : goal.returns-then-end-self
returns-then-end-self c =
    let t = c.args.self in
    let begin = c.span_start.ensures in
    let end = c.span_end-end.ensures in
    cut_within t.held.now c.args.cell t.from t.to t.starts.now c.last_start-first.result c.last_start-last.result c.requires.nodes.table
    c.requires.nodes.within c.requires.holds (subst (λ n. IsLastStart t.starts.now n c.last_start-first.result) begin c.last_start-first.ensures)
    (let lt = c.if-end-self.true in omega arith) (subst (λ n. IsLastStart t.starts.now n c.last_start-last.result) end c.last_start-last.ensures)

pub returns-else-end-self : goal.returns-else-end-self
returns-else-end-self c =
    let t = c.args.self in
    let begin = c.span_start.ensures in
    let end = c.span_end-end.ensures in
    cut_to_end t.held.now c.args.cell t.from t.to t.starts.now c.last_start-first.result c.requires.nodes.table c.requires.nodes.within
    c.requires.holds (subst (λ n. IsLastStart t.starts.now n c.last_start-first.result) begin c.last_start-first.ensures)
    (let le = c.if-end-self.false in omega arith)
