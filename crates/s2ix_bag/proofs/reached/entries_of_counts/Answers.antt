-- What was pushed is all that differs.
use Rattle.std.proofs.Common.{◌++◌, sym, ap, ◌∙◌}
use Rattle.std.proofs.lemmas.List.{append-nil}
use Rattle.s2ix_bag.proofs.CountsSet.{entries_between, entries_of, pairs_by_rank}
use Rattle.s2ix_bag.proofs.reached.entries_of_counts.Goals as goal

pub returns : goal.returns
returns c =
    let hs = c.args.bag.now.held in
    let out = c.loop-pair.out.items in
    sym (append-nil out) ∙ ap (λ cs. out ++ entries_of hs cs) (sym c.in-None.ensures.steps.0) ∙ c.loop-pair.invariant
    ∙ entries_between _ pairs_by_rank hs c.args.counts.now.entries c.requires c.len.ensures.ordered
