use Rattle.std.proofs.Common.{◌<◌, ◌+◌, ◌^◌, rules}
use Rattle.s2ix_table_walk.proofs.Rooms.{window_fits}
use Rattle.s2ix_table_walk.proofs.search.near.Given.{Over}
use Rattle.s2ix_table_walk.proofs.search.near.Goals as goal
use Rattle.s2ix_table_walk.proofs.search.near.Goals.{Else-among-le-NEAR}

-- the end of the ranges fits a word
end_fits : (g : Over) (c : Else-among-le-NEAR g) → c.args.among.first + c.args.among.size < 2 ^ 64
end_fits g c =
    let r = c.args.reader.now in
    let s = g.R.Reader.shown r in
    window_fits s.pairs s.ranges c.args.leaf c.args.among.first c.args.among.size (g.met.R.Reader.is_shown r).is_table c.requires.among

pub overflow_add-among : goal.overflow_add-among
overflow_add-among g c =
    let fits = end_fits g (goal.at.overflow_add-among g c).Else-among-le-NEAR in
    let many = c.if-among-le-NEAR.false in
    search (rules, fits)

pub side-requires-clause-fits : goal.side-requires-clause-fits
side-requires-clause-fits g c = end_fits g (goal.at.side-requires-clause-fits g c).Else-among-le-NEAR

pub side-requires-2-clause-fits : goal.side-requires-2-clause-fits
side-requires-2-clause-fits g c = end_fits g (goal.at.side-requires-2-clause-fits g c).Else-among-le-NEAR
