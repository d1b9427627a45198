use Rattle.std.proofs.Common.{◌+◌}
use Rattle.s2ix_bag_pairs.specs.Collection.{count_in}
use Rattle.s2ix_bag_pairs.proofs.Collections.{count_in-set_count_other, count_in-set_count_same}
use Rattle.s2ix_bag_pairs.proofs.Pairs.{same_pair}
use Rattle.s2ix_edit_plan.proofs.laws.add_adds_copies.Goals as goal

pub returns-clause-pair : goal.returns-clause-pair
returns-clause-pair c = λ hs pair copies is. count_in-set_count_same pair (count_in hs pair + copies) hs is

pub returns-clause-others : goal.returns-clause-others
returns-clause-others c =
    λ hs pair other copies apart.
    count_in-set_count_other pair (count_in hs pair + copies) hs other (λ same. apart (same_pair pair other same))
