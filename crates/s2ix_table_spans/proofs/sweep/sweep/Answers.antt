use Rattle.std.proofs.Common.{ℕ, ◌+◌, ◌<◌, List, length, get_or, refl, ap, arith}
use Rattle.std.proofs.lemmas.Option.{slice_get-get_or}
use Rattle.std.proofs.lemmas.List.Elements.{Contains-get_or}
use Rattle.s2ix_table_spans.specs.Pass.{with_frontier}
use Rattle.s2ix_table_spans.proofs.Turning.{way_begins, way_next, ends_by, taken_off, put_next, way_ends, top_written}
use Rattle.s2ix_table_spans.proofs.sweep.sweep.Goals as goal

pub loop-lasts-init : goal.loop-lasts-init
loop-lasts-init c =
    way_begins c.args.held.now c.args.order.now c.args.pass.now.frontier.at c.args.to c.args.lasts.now c.args.pass.now c.requires.span refl c.requires.fresh c.requires.room

pub loop-depth-init : goal.loop-depth-init
loop-depth-init c =
    let le = way_next c.args.held.now c.args.order.now c.args.pass.now.frontier.at c.args.to c.loop-lasts.k c.loop-lasts.depth c.loop-lasts.lasts (with_frontier c.loop-lasts.frontier c.loop-lasts.pass) c.requires.order c.requires.span c.loop-lasts.invariant in
    let e = c.next_start-bound.ensures in
    (e, omega arith, c.loop-lasts.invariant)

pub index-requires : goal.index-requires
index-requires c =
    let fits = c.next_start-bound.type_inv in
    let within = (ends_by c.args.held.now c.args.order.now c.args.pass.now.frontier.at c.args.to c.loop-lasts.k c.loop-depth.depth c.next_start-bound.result c.loop-lasts.lasts (with_frontier c.loop-depth.frontier c.loop-depth.pass) c.loop-depth.invariant.2 (omega arith) c.loop-depth-test.true).within in
    let top = top_written (get_or c.loop-lasts.lasts c.loop-depth.depth 0 + 1) (with_frontier c.loop-depth.frontier c.loop-depth.pass) (with_frontier c.write_until-frontier.result c.write_until-frontier.new.self) c.write_until-frontier.ensures in
    let size = c.loop-depth.invariant.2.size in
    let same = ap (λ (os : List ℕ). length os) c.write_until-frontier.ensures.outer in
    omega arith

pub loop-depth-smaller : goal.loop-depth-smaller
loop-depth-smaller c =
    (taken_off c.args.held.now c.args.order.now c.args.pass.now.frontier.at c.args.to c.loop-lasts.k c.loop-depth.depth c.next_start-bound.result c.index.result.now c.loop-lasts.lasts (with_frontier c.loop-depth.frontier c.loop-depth.pass) (with_frontier c.write_until-frontier.result c.write_until-frontier.new.self) c.requires.order c.requires.span c.loop-depth.invariant.2 c.loop-depth.invariant.0 (let fits = c.next_start-bound.type_inv in omega arith) c.loop-depth-test.true c.write_until-frontier.ensures c.index.ensures).fewer

pub loop-depth-preserved : goal.loop-depth-preserved
loop-depth-preserved c =
    let t = taken_off c.args.held.now c.args.order.now c.args.pass.now.frontier.at c.args.to c.loop-lasts.k c.loop-depth.depth c.next_start-bound.result c.index.result.now c.loop-lasts.lasts (with_frontier c.loop-depth.frontier c.loop-depth.pass) (with_frontier c.write_until-frontier.result c.write_until-frontier.new.self) c.requires.order c.requires.span c.loop-depth.invariant.2 c.loop-depth.invariant.0 (let fits = c.next_start-bound.type_inv in omega arith) c.loop-depth-test.true c.write_until-frontier.ensures c.index.ensures in
    (c.loop-depth.invariant.0, t.by, t.way)

pub returns-then-k-order : goal.returns-then-k-order
returns-then-k-order c =
    way_ends c.args.held.now c.args.order.now c.args.pass.now.frontier.at c.args.to c.loop-lasts.k c.loop-depth.depth c.next_start-bound.result c.loop-lasts.lasts (with_frontier c.loop-depth.frontier c.loop-depth.pass) (with_frontier c.write_until-frontier-in-loop-lasts.result c.write_until-frontier-in-loop-lasts.new.self) c.requires.order c.requires.span c.loop-depth.invariant.2 c.loop-depth.invariant.0 c.loop-depth.invariant.1 c.loop-depth-test.false c.write_until-frontier-in-loop-lasts.ensures c.if-k-order.true

pub index_mut-requires : goal.index_mut-requires
index_mut-requires c =
    let order = c.args.order.now in
    let k = c.loop-lasts.k in
    let short : k < length order = omega (arith, c.if-k-order.false) in
    let lt = c.requires.order.places.to (get_or order k 0) (Contains-get_or order k 0 short) in
    let w = ap (λ (os : List ℕ). length os) c.write_until-frontier-in-loop-lasts.ensures.outer in
    let s = c.loop-depth.invariant.2.size in
    omega arith

pub last_in-requires : goal.last_in-requires
last_in-requires c =
    c.requires.order.places.to (get_or c.args.order.now c.loop-lasts.k 0) (Contains-get_or c.args.order.now c.loop-lasts.k 0 (omega (arith, c.if-k-order.false)))

pub loop-lasts-preserved : goal.loop-lasts-preserved
loop-lasts-preserved c =
    let order = c.args.order.now in
    let k = c.loop-lasts.k in
    let short : k < length order = omega (arith, c.if-k-order.false) in
    put_next c.args.held.now order c.args.pass.now.frontier.at c.args.to k c.loop-depth.depth c.next_start-bound.result (get_or order k 0) c.last_in.result c.loop-lasts.lasts (with_frontier c.loop-depth.frontier c.loop-depth.pass) (with_frontier c.write_until-frontier-in-loop-lasts.result c.write_until-frontier-in-loop-lasts.new.self) c.requires.rises c.requires.order c.requires.span c.loop-depth.invariant.2 c.loop-depth.invariant.0 c.loop-depth.invariant.1 c.loop-depth-test.false c.write_until-frontier-in-loop-lasts.ensures (slice_get-get_or order k 0 short) c.last_in.ensures _ refl refl refl refl
