-- The rows that are out, and those that are counted, are the meeting's.
use Rattle.std.proofs.Common.{rules, ◌≡◌, ◌<◌, ◌≤◌, ◌+◌, ◌++◌, [], length, map, take, ap, arith}
use Rattle.std.proofs.lemmas.List.{length-map}
use Rattle.s2ix_table_walk.specs.Meeting.{meeting_of}
use Rattle.s2ix_table_walk.specs.Meetings.{left_in}
use Rattle.s2ix_c_calls.specs.Lists.{row_of}
use Rattle.s2ix_c_calls.proofs.Begun.{met_at_most}
use Rattle.s2ix_c_calls.proofs.Filling.{fills_front, left_short, whole}
use Rattle.s2ix_c_calls.proofs.meetings.put_met.Goals as goal

pub count_met-more-requires : goal.count_met-more-requires
count_met-more-requires g c =
    let w = c.write_met-count in
    let all = meeting_of c.args.cells.now (g.T.RangeTable.pairs c.args.table.now) in
    let put : take w.result w.new.out ++ map row_of (left_in w.new.meeting) ≡ map row_of all = search rules in
    let short = left_short row_of (take w.result w.new.out) (left_in w.new.meeting) all put in
    omega (arith, short, met_at_most c.args.cells.now (g.T.RangeTable.pairs c.args.table.now), g.met.T.RangeTable.within_limit c.args.table.now)

pub overflow_add-number : goal.overflow_add-number
overflow_add-number g c =
    let w = c.write_met-count in
    let left = left_in w.new.meeting in
    let all = meeting_of c.args.cells.now (g.T.RangeTable.pairs c.args.table.now) in
    let put : take w.result w.new.out ++ map row_of left ≡ map row_of all = search rules in
    let counted = whole (map row_of all) (map row_of left) w.result c.args.out.now w.new.out put w.ensures.after w.auto.out w.ensures.room in
    omega (
      arith,
      counted,
      length-map all row_of,
      length-map left row_of,
      c.count_met-more.ensures,
      met_at_most c.args.cells.now (g.T.RangeTable.pairs c.args.table.now),
      g.met.T.RangeTable.within_limit c.args.table.now,
    )

pub returns-then-more-gt0 : goal.returns-then-more-gt0
returns-then-more-gt0 g c =
    let w = c.write_met-count in
    let left = left_in w.new.meeting in
    let all = meeting_of c.args.cells.now (g.T.RangeTable.pairs c.args.table.now) in
    let put : take w.result w.new.out ++ map row_of left ≡ map row_of all = search rules in
    fills_front (map row_of all) (map row_of left) w.result c.args.out.now w.new.out put w.ensures.after w.auto.out w.ensures.room
    (λ less. ap (map row_of) (w.ensures.full less)) (w.result + c.count_met-more.result)
    (omega (arith, c.count_met-more.ensures, length-map left row_of)) (omega (arith, c.count_met-more.ensures, length-map left row_of))
