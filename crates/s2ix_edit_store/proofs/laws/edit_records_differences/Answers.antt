use Rattle.s2ix_bag_pairs.proofs.Differences.{between_is_change, counts_between}
use Rattle.s2ix_edit_plan.specs.Edit.{edited}
use Rattle.s2ix_edit_plan.specs.State.{history_of}
use Rattle.s2ix_edit_plan.proofs.Edited.{held_edited_is_collection}
use Rattle.s2ix_edit_store.proofs.laws.edit_records_differences.Goals as goal

pub returns-clause-rises : goal.returns-clause-rises
returns-clause-rises c = λ s edit st. between_is_change s.bag.held (edited (history_of s) edit) st.bag.rises

pub returns-clause-counts : goal.returns-clause-counts
returns-clause-counts c =
    λ s edit pair st.
    counts_between s.bag.held (edited (history_of s) edit) pair st.bag.rises (held_edited_is_collection s edit st.bag.rises)
