use Rattle.std.proofs.Common.{◌∙◌, ap, map, arith}
use Rattle.s2ix_table_walk.specs.Contents.{contents_at}
use Rattle.s2ix_table_queries.proofs.Segments.{segment}
use Rattle.s2ix_table_queries.proofs.many.Answered.items_at.Goals as goal

pub returns-clause-items : goal.returns-clause-items
returns-clause-items g c = λ held are.
    segment g.R.OfHeld.of held c.args.self.now.leaves.now c.args.self.now.count c.args.index c.end_before-start.result c.args.self.now.ends.now
    c.args.self.now.items.now are (omega (arith, c.if-index-min.false, c.min-2.ensures, c.min.ensures)) c.end_before-start.ensures.first
    c.end_before-start.ensures.before
    ∙ ap (λ n. map g.R.OfHeld.of (contents_at n held)) c.if-self-index.false
