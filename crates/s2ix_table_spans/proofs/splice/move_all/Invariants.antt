use Rattle.std.proofs.Common.{◌≡◌, ◌++◌, map, take, drop}
use Rattle.s2ix_table_spans.specs.Blocks.{moved}
use Rattle.s2ix_table_spans.proofs.splice.move_all.Given as goal

abbrev pub invariant-loop-place : goal.invariant-loop-place
invariant-loop-place l =
    l.places ≡ map (moved l.block.start l.block.old l.block.new l.block.count) (take l.place-index l.fn.places) ++ drop l.place-index l.fn.places
