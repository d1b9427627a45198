-- Where the steps end, the entry at hand is of a later face, or the list ends.
use Rattle.std.proofs.Common.{◌+◌, arith}
use Rattle.std.proofs.lemmas.Bool.{iff_false}
use Rattle.s2ix_bag_lists.specs.Faces.{face_start}
use Rattle.s2ix_bag_lists.proofs.Ends.{entries_below_more, entries_from, from_none}
use Rattle.s2ix_bag_lists.proofs.face_ends.entries_up_to.Goals as goal

pub loop-count-preserved : goal.loop-count-preserved
loop-count-preserved c = (
  omega arith,
  entries_below_more (face_start (c.args.face + 1)) c.loop-count.count c.args.entries.now c.index-entries-count.result (omega arith)
      c.loop-count.invariant.1 (c.is_up_to.ensures.0 c.if-is_up_to.true),
)

pub returns-else-is_up_to-clause-rest : goal.returns-else-is_up_to-clause-rest
returns-else-is_up_to-clause-rest c =
    entries_from (face_start (c.args.face + 1)) c.loop-count.count 0 c.args.entries.now c.index-entries-count.result c.requires
    (λ within. omega (arith, iff_false c.is_up_to.ensures c.if-is_up_to.false))

pub returns-after-loop-count-clause-rest : goal.returns-after-loop-count-clause-rest
returns-after-loop-count-clause-rest c =
    from_none (face_start (c.args.face + 1)) c.loop-count.count c.args.entries.now (omega arith)
