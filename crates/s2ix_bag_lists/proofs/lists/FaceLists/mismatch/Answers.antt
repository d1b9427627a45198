-- Each face's entries are compared with its own list.
use Rattle.std.proofs.Common.{◌≡◌, ◌+◌, ◌<◌, List, [], position, length, take, sym, ap, ◌∙◌, subst, subst₂, arith, Some, None}
use Rattle.std.proofs.lemmas.List.{get_or_default}
use Rattle.s2ix_bag_pairs.specs.Change.{IsChangeList}
use Rattle.s2ix_bag_pairs.specs.Collection.{Collection}
use Rattle.s2ix_bag_pairs.specs.declared.pair.Entry.{Entry}
use Rattle.s2ix_bag_pairs.proofs.Changes.{change_lower}
use Rattle.s2ix_bag_lists.proofs.Refusals.{is_mismatch}
use Rattle.s2ix_bag_lists.specs.Faces.{face_start}
use Rattle.s2ix_bag_lists.proofs.FaceByFace.{FacesCompared, faces_compared_found, faces_compared_step, faces_compared_end, own_of_face}
use Rattle.s2ix_bag_lists.proofs.lists.FaceLists.mismatch.Goals as goal

pub entries_up_to-requires : goal.entries_up_to-requires
entries_up_to-requires c = change_lower 0 (face_start c.loop-face.face) c.loop-face.rest.now (omega arith) c.loop-face.invariant.rises

pub first_mismatch-requires : goal.first_mismatch-requires
first_mismatch-requires c =
    let start = face_start c.loop-face.face in
    let own = own_of_face c.loop-face.face c.entries_up_to.result c.loop-face.rest.now c.loop-face.invariant.rises in
    subst (λ (es : List Entry). IsChangeList es) (sym c.split_at.ensures.front)
    (change_lower 0 start (take c.entries_up_to.result c.loop-face.rest.now) (omega arith) own)

pub returns-in-Some : goal.returns-in-Some
returns-in-Some c =
    let ls = c.self.inside.lists in
    let face = c.loop-face.face in
    let short : face < length ls = omega (arith, c.self.invariant.six) in
    let own = sym (get_or_default ls face [] c.index-self-face.result short) in
    let Found : Collection → List Entry → Type 0 = λ hs es. Some c.in-Some.place ≡ position (is_mismatch hs) es in
    let found = subst₂ Found own c.split_at.ensures.front c.in-Some.ensures in
    sym (faces_compared_found ls c.args.entries.now face c.loop-face.rest.now c.loop-face.passed c.entries_up_to.result c.in-Some.place short
    c.self.invariant.apart c.loop-face.invariant c.entries_up_to.ensures.below (sym found))
    ∙ ap (λ hs. position (is_mismatch hs) c.args.entries.now) c.self.view_is

pub loop-face-preserved : goal.loop-face-preserved
loop-face-preserved c =
    let ls = c.self.inside.lists in
    let face = c.loop-face.face in
    let short : face < length ls = omega (arith, c.self.invariant.six) in
    let own = sym (get_or_default ls face [] c.index-self-face.result short) in
    let Absent : Collection → List Entry → Type 0 = λ hs es. None ≡ position (is_mismatch hs) es in
    let none = subst₂ Absent own c.split_at.ensures.front c.in_default.ensures in
    let next =
    faces_compared_step ls c.args.entries.now face c.loop-face.rest.now c.loop-face.passed c.entries_up_to.result short
    c.self.invariant.apart c.loop-face.invariant c.entries_up_to.ensures.below c.entries_up_to.ensures.rest (sym none) in
    let Next : List Entry → List Entry → Type 0 =
    λ later own. FacesCompared ls c.args.entries.now (face + 1) later (c.loop-face.passed + length own) in
    subst₂ Next (sym c.split_at.ensures.back) (sym c.split_at.ensures.front) next

pub returns : goal.returns
returns c =
    let ls = c.self.inside.lists in
    sym (faces_compared_end ls c.args.entries.now c.loop-face.face c.loop-face.rest.now c.loop-face.passed (omega arith) c.loop-face.invariant)
    ∙ ap (λ hs. position (is_mismatch hs) c.args.entries.now) c.self.view_is
