use Rattle.std.proofs.Common.{◌-◌, [], ◌∷◌, length, drop, slice_index_or, sym, ap, arith, subst}
use Rattle.std.proofs.lemmas.List.{length-append}
use Rattle.s2ix_table_walk.specs.Stretches.{IsSample}
use Rattle.s2ix_table_spans.proofs.Samples.{none_sampled, one_more}
use Rattle.s2ix_table_spans.proofs.sample.sample_of.Goals as goal

pub loop-k-init : goal.loop-k-init
loop-k-init c =
    let starts = c.args.starts.now in
    let none = c.in_ok-sample.ensures.items in
    let within_limit = ap length none in (
      subst (IsSample (length starts - 2) (drop 1 starts)) (sym none) (none_sampled (length starts - 2) (drop 1 starts)),
      omega arith,
    )

pub loop-k-preserved : goal.loop-k-preserved
loop-k-preserved c =
    let starts = c.args.starts.now in
    let old = c.loop-k.sample.items in
    let i = c.loop-k.invariant in
    let count = c.saturating_sub-count.ensures in
    let more = c.loop-k-test.true in
    let items = c.in_ok-push.ensures.items in
    let many = ap length items in
    let longer = length-append old (slice_index_or starts c.loop-k.k 0 ∷ []) in
    let at = i.1 in (
      subst (IsSample (length starts - 2) (drop 1 starts)) (sym items)
          (one_more starts old (length starts - 2) c.loop-k.k i.0 i.1 (omega arith)),
      omega arith,
    )

pub returns : goal.returns
returns c = c.loop-k.invariant.0
