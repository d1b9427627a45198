-- What is still to come decides.
use Rattle.std.proofs.Common.{◌≡◌, ◌+◌, All, drop}
use Rattle.s2ix_bag_pairs.specs.Change.{IsChangeList}
use Rattle.s2ix_edit_store.specs.Given.{first_empty, first_empty_from}
use Rattle.s2ix_edit_store.proofs.given.first_empty_of.Given as goal

abbrev pub invariant-loop-place : goal.invariant-loop-place
invariant-loop-place l =
    (first_empty l.changes ≡ first_empty_from (l.place + 1) (drop l.place l.changes))
    × (All IsChangeList (drop l.place l.changes) → All IsChangeList l.changes)
