use Rattle.std.proofs.Common.{◌-◌, ◌/◌, sym, subst}
use Rattle.s2ix_table_spans.specs.Starts.{IsAmong}
use Rattle.s2ix_table_spans.proofs.Windows.{window_up, window_down}
use Rattle.s2ix_table_spans.proofs.places.far_last.Goals.{then-starts-first, else-starts-first}
use Rattle.s2ix_table_spans.proofs.places.far_last.Goals as goal

pub loop-size-preserved : goal.loop-size-preserved
loop-size-preserved c =
    let starts = c.args.starts.now in
    let w = c.loop-size.invariant in
    let first = c.loop-size.first in
    let size = c.loop-size.size in
    let test = c.loop-size-test.true in
    elim c.if-starts-first.branch [
      | then-starts-first v ↦
          subst (λ k. IsAmong starts c.args.leaf k (size - size / 2)) (sym v.first-is)
          (window_up starts c.args.leaf first size test w v.if-starts-first.true)
      | else-starts-first v ↦
          subst (λ k. IsAmong starts c.args.leaf k (size - size / 2)) (sym v.first-is)
          (window_down starts c.args.leaf first size test w v.if-starts-first.false c.requires.rises)
    ]
