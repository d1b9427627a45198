use Rattle.std.proofs.Common.{◌≡◌, map, take}
use Rattle.std.specs.Prelude.{Ok}
use Rattle.s2ix_c_calls.specs.Asked.{AreRight, held_asked}
use Rattle.s2ix_c_calls.proofs.rows.held_list.Given as goal

abbrev pub invariant-loop-row : goal.invariant-loop-row
invariant-loop-row l = (map held_asked (take l.row-index l.rows) ≡ map Ok l.list.items)
