-- The rows that are out are a page.
use Rattle.std.proofs.Common.{rules, ◌≡◌, ◌++◌, drop, map, take, ap}
use Rattle.s2ix_table_walk.specs.Meeting.{meeting_of}
use Rattle.s2ix_table_walk.specs.Meetings.{left_in}
use Rattle.s2ix_c_calls.specs.Lists.{row_of}
use Rattle.s2ix_c_calls.proofs.Filling.{puts_page}
use Rattle.s2ix_c_calls.proofs.meetings.put_met_from.Goals as goal

pub returns : goal.returns
returns g c =
    let w = c.write_met in
    let page = drop c.args.from (meeting_of c.args.cells.now (g.T.RangeTable.pairs c.args.table.now)) in
    let put : take w.result w.new.out ++ map row_of (left_in w.new.meeting) ≡ map row_of page = search rules in
    puts_page row_of page (map row_of (left_in w.new.meeting)) w.result c.args.out.now w.new.out put w.ensures.after w.auto.out w.ensures.room
    (λ less. ap (map row_of) (w.ensures.full less))
