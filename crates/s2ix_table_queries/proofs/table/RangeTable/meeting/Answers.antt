use Rattle.std.proofs.Common.{◌≡◌, sym, subst, rules}
use Rattle.s2ix_table_walk.specs.Meeting.{IsMeetingList, meeting_of}
use Rattle.s2ix_table_walk.proofs.Lists.{meeting_list}
use Rattle.s2ix_table_queries.proofs.table.RangeTable.meeting.Goals as goal

pub returns-clause-met : goal.returns-clause-met
returns-clause-met g c =
    let hs = g.Self.RangeTable.pairs c.args.self.now in
    let target = c.args.target.now in
    let is : c.loop-held.list.items ≡ meeting_of target hs = search rules in
    subst (IsMeetingList target hs) (sym is) (meeting_list target hs (g.met.Self.RangeTable.is_collection c.args.self.now))
