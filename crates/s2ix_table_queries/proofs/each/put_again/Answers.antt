use Rattle.std.proofs.Common.{rules, ◌≡◌, ◌+◌, ◌++◌, take, drop, subst, sym, slice_set, arith, ◌∙◌}
use Rattle.std.proofs.lemmas.List.{length-take-le}
use Rattle.s2ix_table_queries.proofs.Again.{again_more}
use Rattle.s2ix_table_queries.proofs.each.put_again.Goals as goal

pub loop-k-preserved : goal.loop-k-preserved
loop-k-preserved g c =
    let i = c.loop-k.invariant in
    let before = take c.args.end c.args.out.now in
    let long = length-take-le c.args.end c.args.out.now c.requires.room in
    let put = subst (λ n. take (n + c.loop-k.k) c.loop-k.out ≡ before ++ take c.loop-k.k (drop c.args.from before)) (sym long) i.1 in
    let more = again_more c.loop-k.out before c.args.from c.loop-k.k c.index-out-from.result (omega (arith, long, c.loop-k-test.true))
    (omega (arith, long, i.0)) c.index-out-from.is put in (
      search rules ∙ i.0,
      subst (λ n. take (n + (c.loop-k.k + 1)) (slice_set c.loop-k.out (n + c.loop-k.k) c.index-out-from.result)
          ≡ before ++ take (c.loop-k.k + 1) (drop c.args.from before)) long more,
    )
