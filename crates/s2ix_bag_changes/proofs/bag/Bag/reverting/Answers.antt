-- The entries that take a change back are a change.
use Rattle.std.proofs.Common.{List, sym, ◌∙◌, subst}
use Rattle.s2ix_bag_pairs.specs.Change.{IsChangeList}
use Rattle.s2ix_bag_pairs.specs.declared.pair.Entry.{Entry}
use Rattle.s2ix_bag_pairs.proofs.TakenBack.{back_keeps}
use Rattle.s2ix_bag_lists.proofs.Reverts.{taken_back_from_none}
use Rattle.s2ix_bag_changes.proofs.bag.Bag.reverting.Goals as goal

pub from_vec-requires : goal.from_vec-requires
from_vec-requires c =
    let Rises : List Entry → Type 0 = λ es. IsChangeList es in
    let es = c.entries-entries.result.now in
    let rises = subst Rises (sym c.entries-entries.ensures.list) c.entries-entries.ensures.rises in
    let taken = taken_back_from_none c.args.self.now es (sym c.refusal.ensures ∙ c.in_default.is) in
    subst Rises (sym c.in_ok-entries_back.ensures) (back_keeps c.args.self.now.held es rises taken.above)
