use Rattle.std.proofs.Common.{List, take, subst}
use Rattle.std.proofs.lemmas.List.{take_all}
use Rattle.std.proofs.lemmas.List.Elements.{All-more}
use Rattle.s2ix_bag_pairs.specs.Label.{value_of}
use Rattle.s2ix_bag_pairs.specs.declared.pair.Entry.{Entry}
use Rattle.s2ix_bag_held.specs.LabelFilter.{LetsThrough, LetsThroughEntries}
use Rattle.s2ix_bag_held.proofs.LabelFilters.{still_entries}
use Rattle.s2ix_bag_held.proofs.label_filter.LabelFilter.add_entries.Goals as goal

pub loop-entry-preserved : goal.loop-entry-preserved
loop-entry-preserved c =
    let Passes : Entry → Type 0 = λ e. LetsThrough c.add.new.self (value_of e.pair.label) in
    let i = c.loop-entry.entry-index in
    let es = c.args.entries.now in (
      All-more Passes es i c.entry-item.result c.loop-entry-test.true
          (still_entries c.loop-entry.self c.add.new.self c.add.ensures.others (take i es) c.loop-entry.invariant.0)
          (subst Passes c.entry-item.is c.add.ensures.own),
      λ other was. c.add.ensures.others other (c.loop-entry.invariant.1 other was),
    )

pub returns-clause-own : goal.returns-clause-own
returns-clause-own c =
    subst (λ (es : List Entry). LetsThroughEntries c.loop-entry.self es)
    (take_all c.loop-entry.entry-index c.args.entries.now c.loop-entry-test.false) c.loop-entry.invariant.0
