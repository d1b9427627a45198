use Rattle.std.proofs.Common.{◌++◌, sym, ◌∙◌, ap₂}
use Rattle.s2ix_bag_lists.specs.Faces.{all_of}
use Rattle.s2ix_bag_lists.specs.View.{held_from}
use Rattle.s2ix_bag_lists.proofs.laws.cloned_held_iterators_have_the_same_rest.Goals as goal

pub returns-clause-same : goal.returns-clause-same
returns-clause-same c it copy h =
    let lists = ap₂ (λ bundles later. held_from bundles later.now) h.4.1.1.0 h.4.1.1.1 in
    let all = ap₂ (λ parts behind. all_of parts.now ++ behind) h.4.1.0 lists in
    sym h.3 ∙ ap₂ (λ rest behind. rest.now ++ behind) h.4.0 all ∙ h.2
