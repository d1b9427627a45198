use Rattle.std.proofs.Common.{◌≡◌, ◌++◌, map, take, drop}
use Rattle.s2ix_table_faced.specs.Offsets.{moved}
use Rattle.s2ix_table_faced.proofs.offset.move_places.Given as goal

abbrev pub invariant-loop-offset : goal.invariant-loop-offset
invariant-loop-offset l =
    l.offsets ≡ map (moved l.from l.to) (take l.offset-index l.fn.offsets) ++ drop l.offset-index l.fn.offsets
