use Rattle.std.proofs.Common.{ap, arith}
use Rattle.s2id_core.specs.CellId.{face_of}
use Rattle.s2ix_bag_pairs.specs.declared.pair.Entry.{Entry}
use Rattle.s2ix_table_faced.proofs.ChangedOnFaces.{before_more, from_there}
use Rattle.s2ix_table_faced.proofs.entries_on.before_face.Goals as goal

pub loop-count-preserved : goal.loop-count-preserved
loop-count-preserved c =
    let lt = c.loop-count-test.true in
    let face = c.face.ensures in
    let before = c.if-face.false in
    let is = ap (λ (e : Entry). face_of e.pair.cell) c.index-entries-count.is in (
      omega arith,
      before_more c.args.face c.loop-count.count c.args.entries.now c.index-entries-count.result (omega arith) c.loop-count.invariant.1
          (omega (arith, is, face, before)),
    )

pub returns-then-face-clause-from : goal.returns-then-face-clause-from
returns-then-face-clause-from c =
    let is = ap (λ (e : Entry). face_of e.pair.cell) c.index-entries-count.is in
    let face = c.face.ensures in
    let le = c.if-face.true in
    from_there c.loop-count.count 0 c.args.face c.args.entries.now c.index-entries-count.result c.requires (λ lt. omega (arith, is, face, le))

pub returns-clause-from : goal.returns-clause-from
returns-clause-from c e held =
    let done = c.loop-count-test.false in
    from_there c.loop-count.count 0 c.args.face c.args.entries.now e c.requires (λ lt. absurd (omega (arith, lt, done))) e held
