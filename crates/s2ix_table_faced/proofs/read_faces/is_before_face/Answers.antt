-- A pair's face is told by its rank.
use Rattle.std.proofs.Common.{◌<◌, arith}
use Rattle.std.proofs.lemmas.Bool.Decides.{nat_tests}
use Rattle.s2ix_table_faced.proofs.PairsOnFaces.{before_by_rank}
use Rattle.s2ix_table_faced.proofs.read_faces.is_before_face.Goals as goal

pub returns : goal.returns
returns c =
    let split = before_by_rank c.args.pair c.args.face c.face.result c.face.ensures in (
      λ test. let lt : c.face.result < c.args.face = grind (arith, nat_tests) in split.0 lt,
      λ low. let lt = split.1 low in grind (arith, nat_tests),
    )
