-- A change that is not refused is taken.
use Rattle.std.proofs.Common.{List, sym, ap, ◌∙◌, subst}
use Rattle.s2ix_bag_lists.specs.Apply.{apply_refusal}
use Rattle.s2ix_bag_pairs.specs.Change.{IsChangeList}
use Rattle.s2ix_bag_pairs.specs.declared.pair.Entry.{Entry}
use Rattle.s2ix_bag_lists.proofs.Refusals.{taken_from_none}
use Rattle.s2ix_bag.proofs.CountsSet.{reached_more}
use Rattle.s2ix_bag.proofs.reached.Reached.led_on.Goals as goal

pub len_with-len-requires-clause-before : goal.len_with-len-requires-clause-before
len_with-len-requires-clause-before c =
    (taken_from_none c.args.self c.entries-entries.result.now
    (ap (λ (es : List Entry). apply_refusal c.args.self es) c.entries-entries.ensures.list ∙ c.requires)).before

pub invariant_of-result : goal.invariant_of-result
invariant_of-result c =
    let es = c.entries-entries.result.now in
    let taken =
    taken_from_none c.args.self es (ap (λ (fs : List Entry). apply_refusal c.args.self fs) c.entries-entries.ensures.list ∙ c.requires) in
    let rises = subst (λ (fs : List Entry). IsChangeList fs) (sym c.entries-entries.ensures.list) c.entries-entries.ensures.rises in
    let was = c.self.invariant in
    reached_more c.self.inside.bag c.args.self c.self.inside.counts.entries c.set_counts.new.counts.entries es c.len_with-len.result was.from
    was.is_bag c.self.view_is rises taken (c.in_ok-set_counts.ensures c.self.inside.bag.held was.from.rises) c.len_with-len.ensures
