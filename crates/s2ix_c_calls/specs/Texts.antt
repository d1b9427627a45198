-- What statuses say, in words.
use Rattle.std.specs.Prelude.{ℕ, ◌==◌, if◌then◌else◌, List, codes}

abbrev pub status_text : ℕ → List ℕ
status_text status =
    if status == 0 then codes "done" else
    if status == 1 then codes "the handle is closed" else
    if status == 2 then codes "out of memory" else
    if status == 3 then codes "a number is no cell's, or no leaf's" else
    if status == 4 then codes "a number is no label's" else
    if status == 5 then codes "limits are out of their ranges" else
    if status == 6 then codes "nothing to undo" else
    if status == 7 then codes "nothing to redo" else
    if status == 8 then codes "the buffer is too short" else
    if status == 9 then codes "the text is no dump" else
    if status == 16 then codes "the journal is full" else
    if status == 17 then codes "no pair of the label is held" else
    if status == 18 then codes "too few copies are held" else
    if status == 19 then codes "the level is too fine" else
    if status == 20 then codes "no change has the number" else
    if status == 21 then codes "a count would be below 0" else
    if status == 22 then codes "nothing would change" else
    if status == 23 then codes "a count would pass the limit" else
    if status == 24 then codes "the number of pairs would pass the limit" else
    if status == 25 then codes "the level is coarser than the cell's" else
    if status == 26 then codes "the bounds are no span" else
    if status == 27 then codes "no range is at the place" else
    if status == 28 then codes "the text is no journal" else
    if status == 29 then codes "a change has another count than is held" else
    if status == 30 then codes "fewer changes can be undone" else
    if status == 31 then codes "an entry is not above the one before it" else
    if status == 32 then codes "an entry has two equal counts" else
    codes "no status"
