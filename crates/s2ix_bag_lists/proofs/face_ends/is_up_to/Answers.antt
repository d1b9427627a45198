-- A face is the number's highest bits.
use Rattle.std.proofs.Common.{◌≤◌, sym, ◌∙◌, arith}
use Rattle.std.proofs.lemmas.Bool.Decides.{nat_tests}
use Rattle.s2id_core.proofs.Bits.{face_by_bits}
use Rattle.s2ix_bag_lists.proofs.Ends.{rank_by_face}
use Rattle.s2ix_bag_lists.proofs.face_ends.is_up_to.Goals as goal

pub returns : goal.returns
returns c =
    let pair = c.args.pair in
    let in_range = pair.label.in_range in
    let face = c.from.ensures ∙ c.face.ensures ∙ sym (face_by_bits pair.cell.raw) in
    let split = rank_by_face pair.cell.raw pair.label.value c.args.face c.from.result (omega (arith, in_range)) face in (
      λ test. let le : c.from.result ≤ c.args.face = grind (arith, nat_tests) in split.0 le,
      λ lt. let le = split.1 lt in grind (arith, nat_tests),
    )
