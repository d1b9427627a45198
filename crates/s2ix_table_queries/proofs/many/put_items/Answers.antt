use Rattle.std.proofs.Common.{rules, ◌≡◌, ◌+◌, ◌++◌, ◌∙◌, ap, sym, length, take, take_all, arith}
use Rattle.s2ix_table_queries.proofs.Segments.{put_more}
use Rattle.s2ix_table_queries.proofs.many.put_items.Goals as goal

pub loop-k-init : goal.loop-k-init
loop-k-init g c = search rules

pub loop-k-preserved : goal.loop-k-preserved
loop-k-preserved g c =
    let i = c.loop-k.invariant in (
      search rules ∙ i.0,
      put_more c.args.out.now c.loop-k.out c.args.items.now c.args.from c.loop-k.k c.index-items-k.result c.loop-k-test.true
          (omega (arith, i.0, c.if-items-out.false, c.requires.room, c.loop-k-test.true)) c.index-items-k.is i.1,
    )

pub returns-clause-put : goal.returns-clause-put
returns-clause-put g c =
    let all : c.loop-k.k ≡ length c.args.items.now = omega (arith, c.loop-k-test.false, c.loop-k.auto.k-end) in
    let before = take c.args.from c.args.out.now in
    ap (λ n. take (c.args.from + n) c.loop-k.out) (sym all)
    ∙ c.loop-k.invariant.1
    ∙ ap (λ n. before ++ take n c.args.items.now) all
    ∙ ap (λ l. before ++ l) (take_all (length c.args.items.now) c.args.items.now (omega arith))
