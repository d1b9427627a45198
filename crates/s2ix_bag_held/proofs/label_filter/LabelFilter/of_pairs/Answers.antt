use Rattle.std.proofs.Common.{take, subst}
use Rattle.std.proofs.lemmas.List.{take_all}
use Rattle.std.proofs.lemmas.List.Elements.{All-more}
use Rattle.s2ix_bag_pairs.specs.Collection.{Collection}
use Rattle.s2ix_bag_pairs.specs.Label.{value_of}
use Rattle.s2ix_bag_pairs.specs.declared.pair.Held.{Held}
use Rattle.s2ix_bag_pairs.specs.declared.pair.Pair.{Pair}
use Rattle.s2ix_bag_held.specs.LabelFilter.{LetsThrough, LetsThroughAll}
use Rattle.s2ix_bag_held.proofs.LabelFilters.{still_all}
use Rattle.s2ix_bag_held.proofs.label_filter.LabelFilter.of_pairs.Goals as goal

pub loop-held-preserved : goal.loop-held-preserved
loop-held-preserved c =
    let Passes : Held → Type 0 = λ h. LetsThrough c.add.new.self (value_of h.pair.label) in
    let i = c.loop-held.held-index in
    let hs = c.args.held.now in
    let own = subst (λ (p : Pair). LetsThrough c.add.new.self (value_of p.label)) c.pair.ensures c.add.ensures.own in
    All-more Passes hs i c.held-item.result c.loop-held-test.true
    (still_all c.loop-held.filter c.add.new.self c.add.ensures.others (take i hs) c.loop-held.invariant)
    (subst Passes c.held-item.is own)

pub returns : goal.returns
returns c =
    subst (λ (hs : Collection). LetsThroughAll c.loop-held.filter hs)
    (take_all c.loop-held.held-index c.args.held.now c.loop-held-test.false) c.loop-held.invariant
