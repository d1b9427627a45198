use Rattle.std.proofs.Common.{◌≡◌, ◌++◌, map, take, drop}
use Rattle.s2ix_table_spans.specs.Blocks.{placed}
use Rattle.s2ix_table_spans.proofs.splice.place_all.Given as goal

abbrev pub invariant-loop-place : goal.invariant-loop-place
invariant-loop-place l =
    l.places ≡ map (placed l.block.start l.block.new l.base) (take l.place-index l.fn.places) ++ drop l.place-index l.fn.places
