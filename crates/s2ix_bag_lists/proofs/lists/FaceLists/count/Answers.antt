-- A pair is held on its own face alone.
use Rattle.std.proofs.Common.{◌<◌, [], length, sym, ap, ◌∙◌, arith}
use Rattle.std.proofs.lemmas.List.{get_or_default}
use Rattle.s2id_core.proofs.Bits.{face_by_bits}
use Rattle.s2ix_bag_pairs.specs.Collection.{count_at}
use Rattle.s2ix_bag_pairs.specs.Pair.{rank_of}
use Rattle.s2ix_bag_lists.proofs.Ends.{face_below_six, rank_on_face}
use Rattle.s2ix_bag_lists.proofs.AmongFaces.{count_on_face}
use Rattle.s2ix_bag_lists.proofs.lists.FaceLists.count.Goals as goal

pub bounds-self-inside-from : goal.bounds-self-inside-from
bounds-self-inside-from c =
    let cell = c.args.pair.cell in
    let face_is = c.from.ensures ∙ c.face.ensures ∙ sym (face_by_bits cell.raw) in
    omega (arith, face_below_six cell.raw c.from.result cell.valid.0 face_is)

pub listed : goal.listed
listed c =
    let cell = c.args.pair.cell in
    let face_is = c.from.ensures ∙ c.face.ensures ∙ sym (face_by_bits cell.raw) in
    omega (arith, face_below_six cell.raw c.from.result cell.valid.0 face_is, c.self.invariant.six)

pub returns : goal.returns
returns c =
    let ls = c.self.inside.lists in
    let face = c.from.result in
    let pair = c.args.pair in
    let cell = pair.cell in
    let face_is = c.from.ensures ∙ c.face.ensures ∙ sym (face_by_bits cell.raw) in
    let short : face < length ls = omega (arith, face_below_six cell.raw face cell.valid.0 face_is, c.self.invariant.six) in
    let own = sym (get_or_default ls face [] c.index-self-from.result short) in
    let on_face = rank_on_face cell.raw pair.label.value face (omega (arith, pair.label.in_range)) face_is in
    c.count.ensures
    ∙ ap (λ hs. count_at hs (rank_of pair)) own
    ∙ sym (count_on_face ls face (rank_of pair) short c.self.invariant.apart on_face.0 on_face.1)
    ∙ ap (λ hs. count_at hs (rank_of pair)) c.self.view_is
