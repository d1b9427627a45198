use Rattle.std.proofs.Common.{sym, subst}
use Rattle.s2id_union.specs.Region.{IsNormal}
use Rattle.s2id_union.proofs.Searching.{follow_from_normal}
use Rattle.s2ix_table_walk.proofs.meeting.Meeting.new.Goals as goal

pub of_cells-requires-clause-follow : goal.of_cells-requires-clause-follow
of_cells-requires-clause-follow g c =
    follow_from_normal c.cells.result.now (subst IsNormal (sym c.cells.ensures.list) c.cells.ensures.normal)
