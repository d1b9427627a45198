use Rattle.std.proofs.Common.{rules, ◌≡◌, ◌+◌, ◌++◌, ap, drop, length, refl, sym, take, slice_set, arith, ◌∙◌}
use Rattle.std.proofs.lemmas.List.{length-drop, length-map, length-take-le}
use Rattle.s2id_core.specs.CellId.{raw_of}
use Rattle.s2ix_table_walk.specs.Contents.{contents_at}
use Rattle.s2ix_table_queries.proofs.Again.{over_again}
use Rattle.s2ix_table_queries.proofs.LeafByLeaf.{answered_more}
use Rattle.s2ix_table_queries.proofs.Linking.{leaf_odd}
use Rattle.s2ix_table_queries.proofs.each.put_run.Goals as goal

pub loop-done-preserved : goal.loop-done-preserved
loop-done-preserved g c =
    let held = g.T.RangeTable.pairs c.args.table.now in
    let i = c.loop-done.invariant in
    let leaf = c.in-Some._leaf in
    let chain = contents_at (raw_of leaf) held in
    let pairs = c.loop-done.done.pairs in
    let there = c.in-Some.ensures in
    let over = i.7.each (raw_of leaf) (leaf_odd leaf there.level) (omega (arith, there.raw, c.has_leaf.ensures.from c.if-not-has_leaf.false))
    (omega (arith, there.raw, c.has_leaf.ensures.limit c.if-not-has_leaf.false)) in
    let put = c.in-Some-put_again.ensures.put ∙ ap (λ l. take pairs c.loop-done.out ++ l) over in
    let before = take pairs c.loop-done.out in
    let long : length chain + c.loop-done.last ≡ pairs =
    omega (arith, ap length over, length-map chain g.R.OfHeld.of, length-drop c.loop-done.last before, length-take-le pairs c.loop-done.out i.2, i.6) in
    let more = answered_more g.R.OfHeld.of held c.args.leaves.now c.loop-done.done.leaves pairs c.in-Some-put_again.after c.loop-done.ends
    c.loop-done.out c.put_again.new.out leaf chain i.0 c.loop-done-test.true c.if-done-ends.true (sym there.leaf) i.1 refl
    (omega (arith, long, c.in-Some-put_again.ensures.end)) put in
    let ends_long : length (slice_set c.loop-done.ends c.loop-done.done.leaves c.in-Some-put_again.after) ≡ length c.args.ends.now = search rules in (
      more.0,
      more.1,
      omega (arith, c.in-Some-put_again.ensures.within, c.in-Some-put_again.ensures.same),
      omega (arith, c.in-Some-put_again.ensures.same, i.3),
      ends_long,
      omega (arith, i.5),
      omega (arith, c.in-Some-put_again.ensures.end),
      over_again g.R.OfHeld.of held _ _ (drop c.loop-done.last before) c.loop-done.out c.put_again.new.out pairs c.in-Some-put_again.after i.2
          c.in-Some-put_again.ensures.put i.7,
    )
