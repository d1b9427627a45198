use Rattle.std.proofs.Common.{length, arith}
use Rattle.s2ix_table_walk.proofs.Rooms.{IsFirstRoom, first_room}
use Rattle.s2ix_table_walk.proofs.borders.begin_narrowing.Given.{Over}
use Rattle.s2ix_table_walk.proofs.borders.begin_narrowing.Goals as goal
use Rattle.s2ix_table_walk.proofs.borders.begin_narrowing.Goals.{After-power_within-room}

room_is : (g : Over) (c : After-power_within-room g)
    → IsFirstRoom c.power_within-room.result (length (g.R.Reader.shown c.args.reader.now).ranges)
room_is g c =
    let power = c.power_within-room.ensures in
    let is = power.1 in
    let by = power.2 in
    let most = power.3 in
    let count = c.range_count.ensures in
    first_room power.0 c.power_within-room.result (length (g.R.Reader.shown c.args.reader.now).ranges) is (omega arith) (omega arith)

pub returns-clause-narrowing : goal.returns-clause-narrowing
returns-clause-narrowing g c =
    let room = room_is g (goal.at.returns-clause-narrowing g c).After-power_within-room in
    let within = c.requires.among.within in
    let most = room.most in
    record { window = c.requires.among; order = omega arith; within = c.requires.borders; most = omega arith; power = room.power }

pub returns-clause-room : goal.returns-clause-room
returns-clause-room g c = (room_is g (goal.at.returns-clause-room g c).After-power_within-room).digits
