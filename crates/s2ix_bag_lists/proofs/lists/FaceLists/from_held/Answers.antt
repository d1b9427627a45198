-- Each face's pairs go into its own list.
use Rattle.std.proofs.Common.{◌+◌, length, set, take, subst, sym, ap, ◌∙◌, subst₂, arith}
use Rattle.s2ix_bag_pairs.specs.Collection.{Collection, IsCollection}
use Rattle.s2ix_bag_pairs.proofs.CutAtRank.{collection_take}
use Rattle.s2ix_bag_pairs.proofs.Counts.{from_lower}
use Rattle.s2ix_bag_lists.specs.Faces.{face_start}
use Rattle.s2ix_bag_lists.proofs.FaceByFace.{Putting, putting_start, putting_step, putting_end}
use Rattle.s2ix_bag_lists.proofs.lists.FaceLists.from_held.Goals as goal

pub loop-face-init : goal.loop-face-init
loop-face-init c = putting_start c.args.held.now c.empty_lists-lists.result c.empty_lists-lists.ensures c.requires.rises

pub held_up_to-requires : goal.held_up_to-requires
held_up_to-requires c = from_lower 0 (face_start c.loop-face.face) c.loop-face.rest.now (omega arith) c.loop-face.invariant.rises

pub copied-requires-clause-rises : goal.copied-requires-clause-rises
copied-requires-clause-rises c =
    let start = face_start c.loop-face.face in
    let rest = c.loop-face.rest.now in
    let own = collection_take c.held_up_to.result start rest c.loop-face.invariant.rises in
    subst (λ (hs : Collection). IsCollection hs) (sym c.split_at.ensures.front)
    (from_lower 0 start (take c.held_up_to.result rest) (omega arith) own)

pub loop-face-preserved : goal.loop-face-preserved
loop-face-preserved c =
    let ls = c.loop-face.lists in
    let face = c.loop-face.face in
    let next =
    putting_step c.args.held.now face ls c.loop-face.rest.now c.held_up_to.result (omega arith) c.loop-face.invariant
    c.held_up_to.ensures.below c.held_up_to.ensures.rest in
    let own = c.in_ok-lists.ensures ∙ c.split_at.ensures.front in
    let Next : Collection → Collection → Type 0 = λ new later. Putting c.args.held.now (face + 1) (set ls face new) later in
    subst₂ Next (sym own) (sym c.split_at.ensures.back) next

pub invariant_of-result : goal.invariant_of-result
invariant_of-result c =
    let was = c.loop-face.invariant in
    let all = putting_end c.args.held.now c.loop-face.face c.loop-face.lists c.loop-face.rest.now (omega arith) was in
    record {
      six = was.six;
      apart = was.apart;
      counted = ap (λ (hs : Collection). length hs) (sym all);
      within_limit = c.requires.within_limit;
    }

pub returns : goal.returns
returns c = putting_end c.args.held.now c.loop-face.face c.loop-face.lists c.loop-face.rest.now (omega arith) c.loop-face.invariant
