-- The old filter lets the old pairs through, and what it has gained the entries'.
use Rattle.std.proofs.Common.{◌∙◌, ap, subst, sym}
use Rattle.s2ix_bag_pairs.specs.Change.{changed}
use Rattle.s2ix_bag_pairs.specs.Collection.{Collection}
use Rattle.s2ix_bag_held.specs.LabelFilter.{LetsThroughAll}
use Rattle.s2ix_bag_held.proofs.LabelFilters.{still_all, changed_all}
use Rattle.s2ix_bag_held.proofs.filtered_held.FilteredHeld.changed_to.Goals as goal

pub invariant_of-result : goal.invariant_of-result
invariant_of-result c =
    let old = c.self.inside.held.items in
    let es = c.args.entries.now in
    let new = c.add_entries.new.self in
    subst (λ (hs : Collection). LetsThroughAll new hs)
    (sym (c.requires ∙ ap (λ (hs : Collection). changed hs es) (sym c.self.view_is)))
    (changed_all new old es (still_all c.self.inside.labels new c.add_entries.ensures.others old c.self.invariant)
    c.add_entries.ensures.own)
