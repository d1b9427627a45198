use Rattle.s2ix_bag_pairs.specs.Pair.{rank_of}
use Rattle.s2ix_edit_plan.proofs.Rows.{permuted_copies, rows_counted, same_rows}
use Rattle.s2ix_edit_plan.proofs.laws.rows_add_their_copies.Goals as goal

pub returns-clause-counts : goal.returns-clause-counts
returns-clause-counts c = λ hs rows pair is. rows_counted rows hs (rank_of pair) is

pub returns-clause-order : goal.returns-clause-order
returns-clause-order c = λ hs rows others is same. same_rows others rows hs is (λ k. permuted_copies rows others k same)
