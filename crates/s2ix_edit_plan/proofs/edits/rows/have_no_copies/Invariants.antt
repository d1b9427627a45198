use Rattle.std.proofs.Common.{◌≡◌, drop}
use Rattle.s2ix_bag_pairs.specs.Collection.{copies_in}
use Rattle.s2ix_edit_plan.proofs.edits.rows.have_no_copies.Given as goal

abbrev pub invariant-loop-row : goal.invariant-loop-row
invariant-loop-row l = copies_in l.rows ≡ copies_in (drop l.row-index l.rows)
