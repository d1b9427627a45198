-- A count that was set, else the bag's own.
use Rattle.std.proofs.Common.{Some, None, ap, ◌∙◌}
use Rattle.s2ix_bag_pairs.specs.Collection.{LimitedCollection, count_in}
use Rattle.s2ix_bag.proofs.CountsSet.{count_found, pairs_by_rank}
use Rattle.s2ix_bag.proofs.reached.Reached.count_so_far.Goals as goal

pub returns-in-Some : goal.returns-in-Some
returns-in-Some c =
    count_found _ pairs_by_rank c.self.inside.bag.held c.self.inside.counts.entries c.args.pair (Some c.in-Some.count.now)
    c.self.invariant.from.rises c.in-Some.ensures.value
    ∙ ap (λ (b : LimitedCollection). count_in b.held c.args.pair) c.self.view_is

pub returns-in-None : goal.returns-in-None
returns-in-None c =
    c.count.ensures.count
    ∙ count_found _ pairs_by_rank c.self.inside.bag.held c.self.inside.counts.entries c.args.pair None c.self.invariant.from.rises
    c.in-None.ensures.value
    ∙ ap (λ (b : LimitedCollection). count_in b.held c.args.pair) c.self.view_is
