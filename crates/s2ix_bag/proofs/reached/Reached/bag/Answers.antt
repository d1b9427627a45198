-- The change to the counts that were set makes the bag.
use Rattle.std.proofs.Common.{List, sym, ◌∙◌, subst}
use Rattle.s2ix_bag_pairs.specs.Change.{IsChangeList}
use Rattle.s2ix_bag_pairs.specs.declared.pair.Entry.{Entry}
use Rattle.s2ix_bag_pairs.proofs.Differences.{between_is_change}
use Rattle.s2ix_bag.specs.Reached.{with_counts}
use Rattle.s2ix_bag.proofs.CountsSet.{reached_is}
use Rattle.s2ix_bag.proofs.reached.Reached.bag.Goals as goal

pub from_vec-change-requires : goal.from_vec-change-requires
from_vec-change-requires c =
    let hs = c.self.inside.bag.held in
    subst (λ (es : List Entry). IsChangeList es) (sym c.in_ok-entries_of_counts.ensures)
    (between_is_change hs (with_counts hs c.self.inside.counts.entries) c.self.invariant.from.rises)

pub returns-in-Ok : goal.returns-in-Ok
returns-in-Ok c =
    reached_is c.self.inside.bag c.in-Ok.bag c.self.inside.counts.entries c.from_vec-change.result c.self.invariant.from.rises
    (c.from_vec-change.ensures ∙ c.in_ok-entries_of_counts.ensures) c.in-Ok.ensures.limits c.in-Ok.ensures.held
    ∙ c.self.view_is
