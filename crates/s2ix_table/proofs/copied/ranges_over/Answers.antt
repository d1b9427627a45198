use Rattle.std.proofs.Common.{sym, subst, arith}
use Rattle.s2ix_table.proofs.Building.{IsBuilt, built_none, built_more, built_end}
use Rattle.s2ix_table.proofs.copied.ranges_over.Goals as goal

pub loop-at-init : goal.loop-at-init
loop-at-init c = subst (λ ranges. IsBuilt c.args.held.now ranges 1) (sym c.new-ranges.ensures.items) (built_none c.args.held.now)

pub loop-at-preserved : goal.loop-at-preserved
loop-at-preserved c =
    let range = c.in_ok-range.range in
    let own = c.in_ok-range.ensures in
    subst (λ ranges. IsBuilt c.args.held.now ranges range.limit) (sym c.in_ok-push.ensures.items)
    (built_more c.args.held.now c.loop-at.ranges.items c.loop-at.at range c.loop-at.invariant (omega arith) (record {
      start = own.start;
      rises = own.limit.0;
      within = own.limit.1;
      odd = own.limit.2;
      shared = own.shared;
      maximal = own.maximal;
    }))

pub returns : goal.returns
returns c = built_end c.args.held.now c.loop-at.ranges.items c.loop-at.at c.loop-at.invariant (omega arith)
