use Rattle.std.proofs.Common.{◌≡◌, map, take}
use Rattle.s2id_core.specs.CellId.{raw_of}
use Rattle.s2ix_c_calls.proofs.unions.cells_of.Given as goal

abbrev pub invariant-loop-id : goal.invariant-loop-id
invariant-loop-id l = map raw_of l.cells.items ≡ take l.id-index l.ids
