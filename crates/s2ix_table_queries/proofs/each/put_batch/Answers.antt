-- One more leaf is answered, or there is no room for it.
use Rattle.std.proofs.Common.{◌≡◌, ap, ◌<◌, ◌+◌, ◌++◌, inl, refl, sym, subst, length, map, take, slice_index_or, arith, ◌∙◌}
use Rattle.std.proofs.lemmas.List.{length-append}
use Rattle.s2ix_table_queries.specs.ManyLeaves.{over_first}
use Rattle.s2id_core.specs.declared.cell_id.CellId.{CellId}
use Rattle.s2id_core.specs.CellId.{raw_of}
use Rattle.s2ix_table_walk.specs.Contents.{contents_at}
use Rattle.s2ix_table_queries.proofs.Again.{over_each_leaf}
use Rattle.s2ix_table_queries.proofs.LeafByLeaf.{answered_more, leaf_at, level_at, no_room, over_next}
use Rattle.s2ix_table_queries.proofs.each.put_batch.Goals as goal

pub returns-then-done-ends-clause-short : goal.returns-then-done-ends-clause-short
returns-then-done-ends-clause-short g c = λ before.
    let i = c.loop-k.invariant in
    let there = leaf_at c.args.leaves.now c.args.before.leaves c.args.batch.now.leaves c.args.batch.now.count c.loop-k.k c.loop-k.done.leaves
    c.index-batch-k.result c.requires.batch c.loop-k-test.true (omega (arith, i.5, c.if-before-k.false)) c.index-batch-k.is in
    record {
      within = there.1;
      is_leaf = λ none. let e = sym there.0 ∙ none in cc;
      short = inl (omega (arith, c.if-done-ends.true, i.4));
    }

pub contents_near-contents-requires : goal.contents_near-contents-requires
contents_near-contents-requires g c =
    let i = c.loop-k.invariant in
    level_at c.args.leaves.now c.args.before.leaves c.args.batch.now.leaves c.args.batch.now.count c.loop-k.k c.loop-k.done.leaves
    c.index-batch-k.result c.requires.batch c.loop-k-test.true (omega (arith, i.5, c.if-before-k.false)) c.index-batch-k.is

pub put_leaf-requires-clause-leaf : goal.put_leaf-requires-clause-leaf
put_leaf-requires-clause-leaf g c =
    let i = c.loop-k.invariant in
    level_at c.args.leaves.now c.args.before.leaves c.args.batch.now.leaves c.args.batch.now.count c.loop-k.k c.loop-k.done.leaves
    c.index-batch-k.result c.requires.batch c.loop-k-test.true (omega (arith, i.5, c.if-before-k.false)) c.index-batch-k.is

pub returns-in_default-clause-short : goal.returns-in_default-clause-short
returns-in_default-clause-short g c = λ before.
    let held = g.T.RangeTable.pairs c.args.table.now in
    let leaf = c.index-batch-k.result in
    let i = c.loop-k.invariant in
    let there = leaf_at c.args.leaves.now c.args.before.leaves c.args.batch.now.leaves c.args.batch.now.count c.loop-k.k c.loop-k.done.leaves leaf
    c.requires.batch c.loop-k-test.true (omega (arith, i.5, c.if-before-k.false)) c.index-batch-k.is in
    let short = subst (λ (l : CellId). length c.loop-k.out < c.loop-k.done.pairs + length (contents_at (raw_of l) held))
    (sym c.index-batch-k.is) (c.in_default.ensures.short refl) in
    no_room held c.args.leaves.now c.loop-k.done.leaves c.loop-k.done.pairs c.args.ends.now c.args.out.now leaf (contents_at (raw_of leaf) held)
    there.1 there.0 i.1 refl (omega (arith, i.3, short))

pub put_same-done-requires-clause-before : goal.put_same-done-requires-clause-before
put_same-done-requires-clause-before g c =
    let held = g.T.RangeTable.pairs c.args.table.now in
    let leaf = c.index-batch-k.result in
    let i = c.loop-k.invariant in
    let there = leaf_at c.args.leaves.now c.args.before.leaves c.args.batch.now.leaves c.args.batch.now.count c.loop-k.k c.loop-k.done.leaves leaf
    c.requires.batch c.loop-k-test.true (omega (arith, i.5, c.if-before-k.false)) c.index-batch-k.is in
    let end = subst (λ (l : CellId). c.in-Some.end ≡ c.loop-k.done.pairs + length (contents_at (raw_of l) held))
    (sym c.index-batch-k.is) c.in-Some.ensures.end in
    let put = subst (λ (l : CellId). take c.in-Some.end c.put_leaf.new.out
    ≡ take c.loop-k.done.pairs c.loop-k.out ++ map g.R.OfHeld.of (contents_at (raw_of l) held)) (sym c.index-batch-k.is) c.in-Some.ensures.put in
    let more = answered_more g.R.OfHeld.of held c.args.leaves.now c.loop-k.done.leaves c.loop-k.done.pairs c.in-Some.end c.loop-k.ends
    c.loop-k.out c.put_leaf.new.out leaf (contents_at (raw_of leaf) held) i.0 there.1 (omega (arith, c.if-done-ends.false)) there.0 i.1 refl end put in
    more.0

pub put_same-done-requires-clause-count : goal.put_same-done-requires-clause-count
put_same-done-requires-clause-count g c =
    let held = g.T.RangeTable.pairs c.args.table.now in
    let leaf = c.index-batch-k.result in
    let i = c.loop-k.invariant in
    let there = leaf_at c.args.leaves.now c.args.before.leaves c.args.batch.now.leaves c.args.batch.now.count c.loop-k.k c.loop-k.done.leaves leaf
    c.requires.batch c.loop-k-test.true (omega (arith, i.5, c.if-before-k.false)) c.index-batch-k.is in
    let all = over_next c.args.leaves.now c.loop-k.done.leaves held leaf (contents_at (raw_of leaf) held) there.1 there.0 refl in
    let end = subst (λ (l : CellId). c.in-Some.end ≡ c.loop-k.done.pairs + length (contents_at (raw_of l) held))
    (sym c.index-batch-k.is) c.in-Some.ensures.end in
    omega (arith, end, i.1, ap length all, length-append (over_first c.loop-k.done.leaves c.args.leaves.now held) (contents_at (raw_of leaf) held))

pub put_same-done-requires-clause-over : goal.put_same-done-requires-clause-over
put_same-done-requires-clause-over g c =
    let i = c.loop-k.invariant in
    let level = level_at c.args.leaves.now c.args.before.leaves c.args.batch.now.leaves c.args.batch.now.count c.loop-k.k c.loop-k.done.leaves
    c.index-batch-k.result c.requires.batch c.loop-k-test.true (omega (arith, i.5, c.if-before-k.false)) c.index-batch-k.is in
    over_each_leaf g.R.OfHeld.of (slice_index_or c.args.batch.now.leaves c.loop-k.k c.index-batch-k.result) c.contents_near-contents.ensures.contents level
    c.contents_near-contents.ensures.from c.contents_near-contents.ensures.limit c.loop-k.out c.put_leaf.new.out c.loop-k.done.pairs c.in-Some.end i.2
    c.in-Some.ensures.put
