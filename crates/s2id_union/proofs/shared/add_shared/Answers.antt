use Rattle.std.proofs.Common.{◌<◌, inl, inr, arith}
use Rattle.s2id_core.specs.CellId.{first_of, end_of}
use Rattle.s2id_union.proofs.Sharing.{finer_shared}
use Rattle.s2id_union.proofs.shared.add_shared.Goals as goal
use Rattle.s2id_union.proofs.shared.add_shared.Goals.{then-level, else-level}

pub returns-in_ok-push : goal.returns-in_ok-push
returns-in_ok-push c =
    let one = c.args.one in
    let other = c.args.other in
    let low : first_of one < end_of other = omega (arith, c.span_start.ensures, c.span_end.ensures, c.if-span_start-span_end.true) in
    let high : first_of other < end_of one = omega (arith, c.span_start-then-span_start-span_end.ensures, c.span_end-then-span_start-span_end.ensures, c.if-span_start-span_end-2.true) in
    let level = c.level.ensures.level in
    let level_other = c.level-then-span_start-span_end-2.ensures.level in
    inr (
      c.if-level.finer,
      c.in_ok-push.ensures.items,
      finer_shared one other c.if-level.finer low high (elim c.if-level.branch [
        | then-level w ↦ inl (omega (arith, w.if-level.true), w.finer-is)
        | else-level w ↦ inr (omega (arith, w.if-level.false), w.finer-is)
      ]),
    )
