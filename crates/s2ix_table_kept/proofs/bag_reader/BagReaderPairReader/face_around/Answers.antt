-- The bag knows where the pair's face begins and ends.
use Rattle.std.proofs.Common.{ℕ, ◌+◌, take, sym, subst}
use Rattle.s2ix_bag_lists.specs.Faces.{face_start}
use Rattle.s2ix_bag_pairs.specs.Collection.{AreBelow}
use Rattle.s2ix_table_kept.proofs.FaceAround.{below_around, from_around}
use Rattle.s2ix_table_kept.proofs.bag_reader.BagReaderPairReader.face_around.Goals as goal

pub returns-clause-below : goal.returns-clause-below
returns-clause-below c = λ face below.
    let hs = c.args.self.now.bag.now.held in
    let before : ℕ = c.face_at-before.result.0 in
    subst (λ (n : ℕ). AreBelow (face_start face) (take (before + n) hs)) (sym c.len.ensures.number)
    (below_around hs c.face_at-before.result.1.now c.args.k before face c.requires c.face_at-before.ensures below)

pub returns-clause-from : goal.returns-clause-from
returns-clause-from c = λ face from.
    from_around c.args.self.now.bag.now.held c.face_at-before.result.1.now c.args.k c.face_at-before.result.0 face c.args.self.now.rises c.requires
    c.face_at-before.ensures from
