use Rattle.std.proofs.Common.{IsTrue, arith}
use Rattle.s2id_union.proofs.Searching.{follow_from_normal}
use Rattle.s2id_union.proofs.Sweeping.{lower_of, swept_init, swept_next_on, swept_next_off, swept_end}
use Rattle.s2id_union.proofs.sweep.sweep_both.Goals as goal

pub loop-at-init : goal.loop-at-init
loop-at-init c = swept_init c.args.operation c.args.first.now c.args.second.now _ c.new-cells.ensures.items

pub stretch_at-of_first-requires-clause-follow : goal.stretch_at-of_first-requires-clause-follow
stretch_at-of_first-requires-clause-follow c = follow_from_normal c.args.first.now c.requires.first_normal

pub stretch_at-of_second-requires-clause-follow : goal.stretch_at-of_second-requires-clause-follow
stretch_at-of_second-requires-clause-follow c = follow_from_normal c.args.second.now c.requires.second_normal

pub pass_cell-i-requires-clause-follow : goal.pass_cell-i-requires-clause-follow
pass_cell-i-requires-clause-follow c = follow_from_normal c.args.first.now c.requires.first_normal

pub pass_cell-j-requires-clause-follow : goal.pass_cell-j-requires-clause-follow
pass_cell-j-requires-clause-follow c = follow_from_normal c.args.second.now c.requires.second_normal

pub loop-at-preserved-in_ok-add_span : goal.loop-at-preserved-in_ok-add_span
loop-at-preserved-in_ok-add_span c =
    let f = c.stretch_at-of_first in
    let s = c.stretch_at-of_second in
    let e = c.min-end in
    let lower = lower_of f.result.end s.result.end e.result e.ensures in
    let odd = lower.odd f.ensures.odd s.ensures.odd in
    swept_next_off c.args.operation c.args.first.now c.args.second.now c.loop-at.cells.items c.add_span.new.cells.items c.loop-at.start c.loop-at.at e.result f.result.end s.result.end c.pass_cell-i.result c.pass_cell-j.result f.result.inside s.result.inside c.loop-at.invariant.0 c.in_ok-add_span.ensures (lower.above c.loop-at.at f.ensures.rises s.ensures.rises) lower.first lower.second f.ensures.on_curve odd f.ensures.constant s.ensures.constant (λ k. let t = c.keeps-kept.ensures.1 k in (cc)) c.pass_cell-i.ensures c.pass_cell-j.ensures

pub loop-at-preserved : goal.loop-at-preserved
loop-at-preserved c =
    let f = c.stretch_at-of_first in
    let s = c.stretch_at-of_second in
    let e = c.min-end in
    let lower = lower_of f.result.end s.result.end e.result e.ensures in
    let odd = lower.odd f.ensures.odd s.ensures.odd in
    let t : IsTrue c.keeps-kept.result = cc in
    swept_next_on c.args.operation c.args.first.now c.args.second.now c.loop-at.cells.items c.loop-at.start c.loop-at.at e.result f.result.end s.result.end c.pass_cell-i.result c.pass_cell-j.result f.result.inside s.result.inside c.loop-at.invariant.0 c.loop-at.invariant.3 c.loop-at.invariant.6 (lower.above c.loop-at.at f.ensures.rises s.ensures.rises) lower.first lower.second f.ensures.on_curve odd f.ensures.constant s.ensures.constant (c.keeps-kept.ensures.0 t) c.pass_cell-i.ensures c.pass_cell-j.ensures

pub returns : goal.returns
returns c =
    let whole = swept_end c.args.operation c.args.first.now c.args.second.now _ _ _ c.loop-at.at c.loop-at.invariant.0 (omega arith) c.in_ok-add_span-2.ensures in
    record { normal = whole.normal; covers = whole.covers }
