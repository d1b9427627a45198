-- The offset at hand is as it was.
use Rattle.std.proofs.Common.{◌<◌, length, ap, ◌∙◌, arith}
use Rattle.s2ix_table_faced.specs.declared.offset.Offset.{Offset}
use Rattle.s2ix_table_faced.specs.Offsets.{moved, offset_at}
use Rattle.s2ix_table_faced.proofs.Moving.{get_unmoved, movable_at, moved_more}
use Rattle.s2ix_table_faced.proofs.offset.move_places.Goals as goal

pub overflow_sub-offset : goal.overflow_sub-offset
overflow_sub-offset c =
    let os = c.args.offsets.now in
    let i = c.loop-offset.offset-index in
    let within : i < length os = omega arith in
    let same = ap (λ ps. (offset_at ps i).place) c.loop-offset.invariant
    ∙ ap (λ (o : Offset). o.place) (get_unmoved (moved c.args.from c.args.to) os i within) in
    omega (arith, same, movable_at c.args.from c.args.to os i within c.requires)

pub overflow_add-offset : goal.overflow_add-offset
overflow_add-offset c =
    let os = c.args.offsets.now in
    let i = c.loop-offset.offset-index in
    let within : i < length os = omega arith in
    let same = ap (λ ps. (offset_at ps i).place) c.loop-offset.invariant
    ∙ ap (λ (o : Offset). o.place) (get_unmoved (moved c.args.from c.args.to) os i within) in
    omega (arith, same, movable_at c.args.from c.args.to os i within c.requires)

pub loop-offset-preserved : goal.loop-offset-preserved
loop-offset-preserved c =
    let os = c.args.offsets.now in
    let i = c.loop-offset.offset-index in
    let within : i < length os = omega arith in
    moved_more (moved c.args.from c.args.to) os c.loop-offset.offsets i within c.loop-offset.invariant
