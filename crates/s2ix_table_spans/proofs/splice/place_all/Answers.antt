use Rattle.std.proofs.Common.{◌<◌, length, set, ap, ◌∙◌, arith}
use Rattle.s2ix_table_spans.specs.Blocks.{placed}
use Rattle.s2ix_table_spans.proofs.Mapped.{mapped_next}
use Rattle.s2ix_table_spans.proofs.splice.place_all.Goals as goal

pub loop-place-preserved : goal.loop-place-preserved
loop-place-preserved c =
    let b = c.args.block in
    let xs = c.args.places.now in
    let i = c.loop-place.place-index in
    let within : i < length xs = omega arith in
    ap (set c.loop-place.places i) c.placed.ensures
    ∙ mapped_next (placed b.start b.new c.args.base) xs c.loop-place.places i _ within c.loop-place.invariant
