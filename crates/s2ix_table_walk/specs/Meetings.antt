-- What the walk as an iterator reads, and what it has still to give.
use Rattle.std.specs.Prelude.{List, ℕ, ◌-◌, length}
use Rattle.std.specs.Borrow.{MutBor}
use Rattle.s2id_core.specs.declared.cell_id.CellId.{CellId}
use Rattle.s2ix_bag_pairs.specs.Collection.{Collection}
use Rattle.s2ix_table_walk.specs.Meeting.{meeting_of}
use Rattle.s2ix_table_walk.specs.Walking.{left_of}
use Rattle.s2ix_table_walk.specs.declared.meeting.Meeting.{Meeting}
use Rattle.s2ix_table_walk.specs.declared.reader.Reader.{Ghosts}

-- the reader that it goes over
abbrev pub reader_in : {R P : Type 0} {words : Ghosts R P} → Meeting R P words → MutBor R
reader_in meeting = meeting.reader

-- the cells of its target
abbrev pub target_in : {R P : Type 0} {words : Ghosts R P} → Meeting R P words → List CellId
target_in meeting = meeting.cells.now

-- the pairs that are still to come
abbrev pub left_in : {R P : Type 0} {words : Ghosts R P} → Meeting R P words → Collection
left_in {R} {P} {words} meeting = left_of (words.shown meeting.reader.now) meeting.cells.now meeting.walk

-- how many pairs it has given
abbrev pub given_in : {R P : Type 0} {words : Ghosts R P} → Meeting R P words → ℕ
given_in {R} {P} {words} meeting =
    length (meeting_of meeting.cells.now (words.shown meeting.reader.now).pairs)
    - length (left_of (words.shown meeting.reader.now) meeting.cells.now meeting.walk)
