use Rattle.std.proofs.Common.{◌≡◌, ℕ, ◌+◌, ◌-◌, sym, subst, rules, arith}
use Rattle.s2id_core.specs.CellId.{raw_of, first_of}
use Rattle.s2id_core.proofs.Nested.{span}
use Rattle.s2ix_table_walk.specs.LeafWindows.{HaveLeaves}
use Rattle.s2ix_table_walk.specs.Searching.{IsWindow}
use Rattle.s2ix_table_walk.proofs.WalkSteps.{range_fits}
use Rattle.s2ix_table_walk.proofs.Windows.{window_ahead, window_from}
use Rattle.s2ix_table_walk.proofs.search.ahead.Given.{Over}
use Rattle.s2ix_table_walk.proofs.search.ahead.Goals as goal
use Rattle.s2ix_table_walk.proofs.search.ahead.Goals.{Then-leaf-known, After-max-first}

-- those of the known window, from the range at hand on
rest_known : (g : Over) (c : Then-leaf-known g)
    → IsWindow (g.R.Reader.shown c.args.reader.now).ranges (first_of c.args.cell) c.args.from (c.args.known.end - c.args.from)
rest_known g c =
    let r = c.args.reader.now in
    let s = g.R.Reader.shown r in
    let known = c.requires.known in
    let leaf = c.span_start-leaf.ensures in
    let test = c.if-leaf-known.true in
    window_from s.pairs s.ranges (first_of c.args.cell) c.args.known.until c.args.known.end c.args.from
    (g.met.R.Reader.is_shown r).is_table (omega arith) known.until known.within c.requires.from c.requires.start

pub overflow_sub-rest : goal.overflow_sub-rest
overflow_sub-rest g c =
    let some = (rest_known g (goal.at.overflow_sub-rest g c).Then-leaf-known).some in
    omega arith

pub near-among-requires-clause-among : goal.near-among-requires-clause-among
near-among-requires-clause-among g c =
    let ranges = (g.R.Reader.shown c.args.reader.now).ranges in
    subst (λ (leaf : ℕ). IsWindow ranges leaf c.args.from (c.args.known.end - c.args.from)) (sym c.span_start-leaf.ensures)
    (rest_known g (goal.at.near-among-requires-clause-among g c).Then-leaf-known)

pub window-window-requires-clause-from : goal.window-window-requires-clause-from
window-window-requires-clause-from g c =
    let s = span (raw_of c.args.cell) c.args.cell.valid in
    omega (arith, s.odd, c.span_start-leaf.ensures)

pub window-window-requires-clause-within : goal.window-window-requires-clause-within
window-window-requires-clause-within g c =
    let s = span (raw_of c.args.cell) c.args.cell.valid in
    omega (arith, s.ends, s.from, s.to, c.span_start-leaf.ensures)

pub overflow_add-end : goal.overflow_add-end
overflow_add-end g c =
    let r = c.args.reader.now in
    let s = g.R.Reader.shown r in
    let have = c.window-window.ensures.window in
    let some = have.some in
    let within = have.within in
    let fits = range_fits s.pairs s.ranges (g.met.R.Reader.is_shown r).is_table
    (c.window-window.result.ranges.first + c.window-window.result.ranges.size - 1) (omega arith) in
    let e : c.window-window.result.ranges.first + c.window-window.result.ranges.size - 1 + 1
    ≡ c.window-window.result.ranges.first + c.window-window.result.ranges.size =
    omega arith in
    search (rules, fits, e)

-- the ranges left of that window
rest_asked : (g : Over) (c : After-max-first g)
    → IsWindow (g.R.Reader.shown c.args.reader.now).ranges (first_of c.args.cell) c.max-first.result
    (c.window-window.result.ranges.first + c.window-window.result.ranges.size - c.max-first.result)
rest_asked g c =
    let r = c.args.reader.now in
    let s = g.R.Reader.shown r in
    let have =
    subst (λ (n : ℕ). HaveLeaves s.ranges n c.window-window.result.until c.window-window.result.ranges.first
    c.window-window.result.ranges.size) c.span_start-leaf.ensures c.window-window.ensures.window in
    window_ahead s.pairs s.ranges (first_of c.args.cell) c.window-window.result.until c.window-window.result.ranges.first
    c.window-window.result.ranges.size c.args.from c.max-first.result (g.met.R.Reader.is_shown r).is_table have c.requires.from
    c.requires.start c.max-first.ensures

pub overflow_sub-among : goal.overflow_sub-among
overflow_sub-among g c =
    let some = (rest_asked g (goal.at.overflow_sub-among g c).After-max-first).some in
    omega arith

pub returns-clause-window : goal.returns-clause-window
returns-clause-window g c = rest_asked g (goal.at.returns-clause-window g c).After-max-first
