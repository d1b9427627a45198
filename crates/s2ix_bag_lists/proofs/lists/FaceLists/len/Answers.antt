-- The faces follow each other.
use Rattle.std.proofs.Common.{subst}
use Rattle.s2ix_bag_pairs.specs.Collection.{IsCollection}
use Rattle.s2ix_bag_lists.proofs.AmongFaces.{faces_rise}
use Rattle.s2ix_bag_lists.proofs.lists.FaceLists.len.Goals as goal

pub returns-clause-rises : goal.returns-clause-rises
returns-clause-rises c = subst IsCollection c.self.view_is (faces_rise c.self.inside.lists c.self.invariant.apart)
