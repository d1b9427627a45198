use Rattle.std.proofs.Common.{ap, sym, ◌∙◌, IsTrue, subst}
use Rattle.std.proofs.lemmas.Bool.{false≢true}
use Rattle.s2ix_bag_pairs.specs.Collection.{Collection}
use Rattle.s2ix_bag_pairs.specs.OfLabel.{held_of}
use Rattle.s2ix_bag_held.proofs.LabelFilters.{none_of}
use Rattle.s2ix_bag_held.proofs.filtered_held.FilteredHeld.may_have.Goals as goal

pub returns : goal.returns
returns c = λ no.
    ap (λ (hs : Collection). held_of c.args.label hs) (sym c.self.view_is)
    ∙ none_of c.self.inside.labels c.args.label c.self.inside.held.items c.self.invariant
    (λ through. false≢true (subst IsTrue no (c.lets_through.ensures.1 through)))
