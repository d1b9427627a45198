use Rattle.s2ix_bag_pairs.specs.Pair.{rank_of}
use Rattle.s2ix_edit_plan.proofs.Removals.{added_again, held_from_none, none_from_held, rows_taken}
use Rattle.s2ix_edit_plan.proofs.laws.removed_rows_take_their_copies.Goals as goal

pub returns-clause-counts : goal.returns-clause-counts
returns-clause-counts c = λ hs rows pair is. rows_taken rows hs (rank_of pair) is

pub returns-clause-held : goal.returns-clause-held
returns-clause-held c =
    λ hs rows is. (λ none rank. held_from_none 0 rows hs rank is none, λ held. none_from_held 0 rows hs is held)

pub returns-clause-added : goal.returns-clause-added
returns-clause-added c = λ hs rows is. added_again rows hs is
